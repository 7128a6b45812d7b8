use Rattle.value.proofs.Products.{low_product}
use Rattle.value.proofs.forty.mul.Goals as goal

pub returns : goal.returns
returns c = low_product c.args.a c.args.b
