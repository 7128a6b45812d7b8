use Rattle.checkpoint.proofs.Chunks.{joined-zero}
use Rattle.std.proofs.Common.{rules, ◌≡◌, bit_or}
use Rattle.std.specs.List.{fold}
use Rattle.checkpoint.proofs.zeros.chunk_zero.Goals as goal

pub returns : goal.returns
returns c =
    let is : c.fold.result ≡ fold (λ found b. bit_or found b) 0 c.args.chunk.now = search rules in
    rw is (joined-zero c.args.chunk.now 0)
