-- Inner: what the functions of the forms promise.
use Rattle.refusal.specs.declared.Refusal.{Refusal}
use Rattle.std.specs.Prelude.{Result, ℕ, ◌≡◌, List}
use Rattle.pending.specs.Pending.{checks_of}
use Rattle.state.specs.declared.registers.Registers.{Registers}
use Rattle.state.specs.Registers.{normalise}
use Rattle.instruction.specs.declared.Instruction.{Instruction}
use Rattle.effect.specs.Outcomes.{Outcome}
use Rattle.effect.specs.Effects.{seen, effect}
use Rattle.execute.specs.World.{World, world, Stepped, stepped, done}
use Rattle.execute.specs.Modes.{settle_sources}
use Rattle.execute.specs.Execute.{execute}
use Rattle.execute.specs.Rules.{rules_of, obey}
use Rattle.execute.specs.declared.Mode.{Mode}
use Rattle.execute.specs.declared.Mode.TheVariants.{Plain, Deferred}
use Rattle.execute.specs.declared.Start.{Start}
use Rattle.execute.specs.declared.Advance.{Advance}

-- what the code gives back, with what was lent to it
abbrev pub advanced : Advance → Registers → List ℕ → Stepped
advanced a R m = stepped a.went (world a.pc a.halted R m) (checks_of a.checks)

-- where a step starts, over registers and memory
abbrev pub started : Start → Registers → List ℕ → World
started s R m = world s.pc s.halted R m

abbrev pub obeyed : Start → Result Instruction Refusal → Registers → List ℕ → Stepped
obeyed s d R m = obey s.choices.mode s.room (rules_of s.choices) d (started s R m)

-- an instruction executed; and on whole values alone
abbrev pub doing : Start → Instruction → Registers → List ℕ → Stepped
doing s i R m = execute s.choices.mode s.room (rules_of s.choices).notes i (started s R m)

abbrev pub on_whole : Start → Instruction → Registers → List ℕ → Stepped
on_whole s i R m = done s.room (effect (rules_of s.choices).notes i (seen s.pc R) m) (started s R m) (settle_sources s.choices.mode i R)

-- an outcome carried out, on registers of which the sources are settled to T
abbrev pub carried : Start → Outcome → Registers → Registers → List ℕ → Stepped
carried s o R T m = done s.room o (started s R m) T

-- what leaves any memory as it is
abbrev pub Always : (List ℕ → Stepped) → Advance → Registers → Type 0
Always f r S = (m : List ℕ) → advanced r S m ≡ f m

-- of a form with two sources, or with one and R0
abbrev pub settle_two : Mode → ℕ → ℕ → Registers → Registers
settle_two Plain a b R = R
settle_two Deferred a b R = normalise b (normalise a R)
