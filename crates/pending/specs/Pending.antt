-- Pending checks: three lists of numbers and a count. Empty lists mean that none is lent.
use Rattle.refusal.specs.declared.Refusal.{Refusal}
use Rattle.std.specs.Prelude.{None, Option, Some, option_to_list, Err, Ok, Result, ℕ, ◌+◌, ◌-◌, Bool, false, cond, ◌&&◌, List, [], ◌∷◌, length, get_or, set, ltb, leb, eqb}
use Rattle.refusal.specs.Stops.{refusal_of}
use Rattle.pending.specs.declared.Check.{Check}
use Rattle.pending.specs.declared.Room.{Room}
use Rattle.pending.specs.declared.Room.TheVariants.{Unlent, Left}
use Rattle.pending.specs.declared.Entry.{Entry}

pub record Lists : Type 0 where
  pub count : ℕ
  pub values : List ℕ
  pub bounds : List ℕ
  pub pcs : List ℕ

abbrev pub lists : ℕ → List ℕ → List ℕ → List ℕ → Lists
lists n vs bs ps = record { count = n; values = vs; bounds = bs; pcs = ps }

-- no list is lent
abbrev pub no_lists : Lists
no_lists = lists 0 [] [] []

-- "Lists of unequal length, or a count beyond them, are malformed"
abbrev pub lengths_fit : ℕ → ℕ → ℕ → ℕ → Bool
lengths_fit values bounds pcs count = eqb bounds values && eqb pcs values && leb count values

abbrev pub lists_fit : Lists → Bool
lists_fit l = lengths_fit (length l.values) (length l.bounds) (length l.pcs) l.count

-- how many checks more the lists take, by their length and the count; any number where none is lent
unfoldable pub room_at : ℕ → ℕ → Room
room_at len count = cond (eqb len 0) Unlent (Left (len - count))

abbrev pub room_of : Lists → Room
room_of l = room_at (length l.values) l.count

-- whether n checks don't fit
unfoldable pub lacks : Room → ℕ → Bool
lacks Unlent n = false
lacks (Left k) n = ltb k n

-- the result's value, bound and pc at the next place, if there is one
unfoldable pub appended : ℕ → ℕ → ℕ → Lists → Lists
appended v b pc l =
    cond (ltb l.count (length l.values))
    (lists (l.count + 1) (set l.values l.count v) (set l.bounds l.count b) (set l.pcs l.count pc))
    l

-- the checks that a step asks for, in their order
abbrev pub check : ℕ → ℕ → Check
check v b = record { value = v; bound = b }

abbrev pub checks_of : Option Check → List Check
checks_of = option_to_list

unfoldable pub listing : List Check → ℕ → Lists → Lists
listing [] pc l = l
listing (c ∷ cs) pc l = listing cs pc (appended c.value c.bound pc l)

-- appending by itself: 9 for malformed lists, 8 where a list is lent and full
unfoldable pub append_answer : ℕ → ℕ → ℕ → Lists → Result ℕ Refusal
append_answer v b pc l =
    cond (lists_fit l) (cond (lacks (room_of l) 1) (Err (refusal_of 8 pc)) (Ok (appended v b pc l).count)) (Err (refusal_of 9 0))

unfoldable pub append_lists : ℕ → ℕ → ℕ → Lists → Lists
append_lists v b pc l = cond (lists_fit l) (appended v b pc l) l

-- "Emptying the list makes its room usable again"; the entries stay where they are. 9 for malformed lists
unfoldable pub empty_answer : Lists → Result ℕ Refusal
empty_answer l = cond (lists_fit l) (Ok 0) (Err (refusal_of 9 0))

unfoldable pub empty_lists : Lists → Lists
empty_lists l = cond (lists_fit l) (lists 0 l.values l.bounds l.pcs) l

abbrev pub entry : ℕ → ℕ → ℕ → Entry
entry v b pc = record { value = v; bound = b; pc = pc }

-- the entry at a place below the count; 9 for malformed lists
unfoldable pub entry_at : ℕ → Lists → Result (Option Entry) Refusal
entry_at n l =
    cond (lists_fit l)
    (cond (ltb n l.count) (Ok (Some (entry (get_or l.values n 0) (get_or l.bounds n 0) (get_or l.pcs n 0)))) (Ok None))
    (Err (refusal_of 9 0))
