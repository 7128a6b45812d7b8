-- The sample's law, in the form of the public functions' laws.
use Rattle.promises.specs.Determined.{Determined}
use Rattle.promises.specs.contracts.sample
use Rattle.promises.proofs.sample as sample_told
use Rattle.promises.proofs.Laws.{two, ◌&◌}

pub sample-determined : Determined sample.ended sample_told.Reads.Learnt
sample-determined κs a x y = two (λ r m. r & m & x.1.1)
