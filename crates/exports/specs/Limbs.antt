-- Inner: normalize.rs over the bytes of a state, with three answers of three numbers each, for the comparison.
use Rattle.std.specs.Prelude.{None, Some, Ok, Err, Option, Result, ℕ, cond, List, get_or, eqb}
use Rattle.refusal.specs.Stops.{number_of, refusal_of}
use Rattle.refusal.specs.declared.Refusal.{Refusal}
use Rattle.memory.specs.Bytes.{bit}
use Rattle.normalize.specs.Normalizing.{zeros, has_carries, total_carry, normalize_register, normalize_and_write, normalize_if_near_overflow}
use Rattle.state.specs.declared.State.{State}
use Rattle.normalize.specs.declared.NormalizationResult.{NormalizationResult}
use Rattle.normalize.specs.declared.Normalized.{Normalized}
use Rattle.layout.specs.Layout.{STATE_BYTES, state_bytes, state_in, well_laid, written}
use Rattle.exports.specs.declared.triple.Triple.{Triple}
use Rattle.exports.specs.Triples.{triple, tripled}

-- 0 `normalize_register`, 1 `normalize_if_near_overflow`, any other `normalize_and_write`, which alone looks at the limbs given
unfoldable pub normalized_by : ℕ → State → ℕ → ℕ → ℕ → Normalized
normalized_by which s reg low high =
    cond (eqb which 0) (normalize_register s reg) (cond (eqb which 1) (normalize_if_near_overflow s reg) (normalize_and_write s reg low high))

pub record LimbCall : Type 0 where
  pub state : List ℕ
  pub before : List ℕ
  pub after : List ℕ
  pub carries : List ℕ

abbrev pub limb_call : List ℕ → List ℕ → List ℕ → List ℕ → LimbCall
limb_call st be af ca = record { state = st; before = be; after = af; carries = ca }

-- 0 done, 64 unneeded, or the refusal's number
abbrev pub normalizing_code : Result (Option NormalizationResult) Refusal → ℕ
normalizing_code (Ok (Some r)) = 0
normalizing_code (Ok None) = 64
normalizing_code (Err r) = number_of r

-- zeros where nothing was normalised
abbrev pub result_in : Result (Option NormalizationResult) Refusal → NormalizationResult
result_in (Ok (Some r)) = r
result_in (Ok None) = zeros
result_in (Err r) = zeros

-- the code and the limbs before
abbrev pub before_triple : ℕ → NormalizationResult → Triple
before_triple code r = triple code (get_or r.accumulated 0 0) (get_or r.accumulated 1 0)

-- the limbs after, and whether there are carries
abbrev pub after_triple : NormalizationResult → Triple
after_triple r = triple (get_or r.normalized 0 0) (get_or r.normalized 1 0) (bit (has_carries r))

-- the carries and their total
abbrev pub carry_triple : NormalizationResult → Triple
carry_triple r = triple (get_or r.carries 0 0) (get_or r.carries 1 0) (total_carry r)

abbrev pub laid_out : List ℕ → Result (Option NormalizationResult) Refusal → LimbCall → LimbCall
laid_out st n g =
    let r = result_in n in
    limb_call st
    (tripled (before_triple (normalizing_code n) r) g.before)
    (tripled (after_triple r) g.after)
    (tripled (carry_triple r) g.carries)

abbrev pub normalized_in : Normalized → LimbCall → LimbCall
normalized_in n g = laid_out (written STATE_BYTES (state_bytes n.state) g.state) n.answer g

-- bytes that are no state's are refused (9), and stay as they are
unfoldable pub normalizing : ℕ → ℕ → ℕ → ℕ → LimbCall → LimbCall
normalizing which reg low high g =
    cond (well_laid g.state)
    (normalized_in (normalized_by which (state_in g.state) reg low high) g)
    (laid_out g.state (Err (refusal_of 9 0)) g)
