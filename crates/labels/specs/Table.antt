-- Inner: the table of labels, as the functions have it that note and find them. A label has three numbers, a slot: the place of its
-- name in the text, the name's key, the number of instructions before it. A slot with the key 0 is free. A name is sought from its
-- home on, upwards and round, up to the first free slot.
use Rattle.std.specs.Prelude.{Option, ℕ, zero, suc, ◌+◌, ◌*◌, ◌/◌, ◌%◌, ◌^◌, ◌<◌, Bool, cond, ◌&&◌, List, [], ◌∷◌, eqb, ltb, length, get_or, Option as RustOption, Some, None}
use Rattle.std.proofs.lemmas.List.Edits.{sets}
use Rattle.labels.specs.Bytes.{eq_bytes, key_of}
use Rattle.labels.specs.Reading.{name_at}
use Rattle.labels.specs.declared.table.Name.{Name}
use Rattle.labels.specs.declared.table.Slot.{Slot}
use Rattle.labels.specs.declared.table.Slot.TheVariants.{Held, Free, Full}
use Rattle.labels.specs.declared.table.Noted.{Noted}
use Rattle.labels.specs.declared.table.Noted.TheVariants as N

-- the name at a place, as it is read
abbrev pub name_from : List ℕ → ℕ → Name
name_from s at = record { key = key_of (name_at s at); after = at + length (name_at s at) }

abbrev pub slots_of : List ℕ → ℕ
slots_of table = length table / 3

abbrev pub place_at : List ℕ → ℕ → ℕ
place_at table k = get_or table (3 * k) 0

abbrev pub key_at : List ℕ → ℕ → ℕ
key_at table k = get_or table (3 * k + 1) 0

abbrev pub index_at : List ℕ → ℕ → ℕ
index_at table k = get_or table (3 * k + 2) 0

-- keys are spread by products, so that names that end alike have homes apart; a product with the number of slots then takes the place
-- of a remainder, which would be a division
abbrev pub spread_of : ℕ → ℕ
spread_of key = (key % 2 ^ 32 * 1640531527 + key / 2 ^ 32 * 1540483477) % 2 ^ 32

abbrev pub home_of : ℕ → ℕ → ℕ
home_of key slots = cond (ltb slots (2 ^ 32)) (spread_of key * slots / 2 ^ 32) (spread_of key)

abbrev pub next_of : ℕ → ℕ → ℕ
next_of slots k = cond (eqb (k + 1) slots) 0 (k + 1)

abbrev pub holds_name : List ℕ → List ℕ → List ℕ → ℕ → Bool
holds_name text table name k = eqb (key_at table k) (key_of name) && eq_bytes (name_at text (place_at table k)) name

unfoldable pub search_from : List ℕ → List ℕ → List ℕ → ℕ → ℕ → Slot
search_from text table name zero k = Full
search_from text table name (suc left) k =
    cond (eqb (key_at table k) 0) (Free k) (cond (holds_name text table name k) (Held k) (search_from text table name left (next_of (slots_of table) k)))

unfoldable pub search_in : List ℕ → List ℕ → List ℕ → Slot
search_in text table name = search_from text table name (slots_of table) (home_of (key_of name) (slots_of table))

-- a slot that is one of so many
abbrev pub SlotBelow : ℕ → Slot → Type 0
SlotBelow slots (Held k) = k < slots
SlotBelow slots (Free k) = k < slots
SlotBelow slots Full = Unit {0}

-- ---- finding: the number of instructions before a label, and the place after its name
abbrev pub index_by : Slot → List ℕ → Option ℕ
index_by (Held k) table = Some (index_at table k)
index_by (Free k) table = None
index_by Full table = None

unfoldable pub index_in : List ℕ → List ℕ → List ℕ → Option ℕ
index_in text table name = index_by (search_in text table name) table

abbrev pub found_by : Option ℕ → ℕ → RustOption (ℕ × ℕ)
found_by (Some i) after = Some (i, after)
found_by None after = None

-- ---- noting the name at a place, unless it is noted
abbrev pub noted_by : Slot → Noted
noted_by (Held k) = N.Again
noted_by (Free k) = N.New
noted_by Full = N.NoRoom

abbrev pub with_label : Slot → List ℕ → ℕ → ℕ → ℕ → List ℕ
with_label (Held k) table place key index = table
with_label (Free k) table place key index = sets table (3 * k) (place ∷ (key ∷ (index ∷ [])))
with_label Full table place key index = table
