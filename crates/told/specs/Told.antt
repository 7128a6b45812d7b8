-- What those calls of the host answer that tell more than a code: 0 or the refusal's number, its particular, the bytes that were written.
use Rattle.std.specs.Prelude.{ℕ}
use Rattle.told.specs.declared.Told.{Told}

abbrev pub done_told : ℕ → Told
done_told length = record { code = 0; particular = 0; length = length }

abbrev pub refused_told : ℕ → ℕ → Told
refused_told code particular = record { code = code; particular = particular; length = 0 }
