-- Document 01: "Memory is one lent slice from address 0, little-endian", and refusals 2, 3, 6 and 7 of "Stops and refusals".
use Rattle.refusal.specs.declared.Refusal.{Refusal}
use Rattle.std.specs.Prelude.{Err, Ok, Result, ⊤, ℕ, ◌+◌, ◌%◌, List, cond, length, leb, eqb}
use Rattle.refusal.specs.Stops.{refusal_of}
use Rattle.memory.specs.Bytes.{number_at, put_at}
use Rattle.memory.specs.declared.Size.{Size}
use Rattle.memory.specs.declared.Size.TheVariants.{Byte, Half, Word, Double}
use Rattle.memory.specs.declared.Access.{Access}
use Rattle.memory.specs.declared.Access.TheVariants.{Served, Beyond, Misaligned}

abbrev pub size_of : Size → ℕ
size_of Byte = 1
size_of Half = 2
size_of Word = 4
size_of Double = 8

-- an access of size bytes at an address, in a memory of len bytes: misaligned if the address is not a multiple of the size, which
-- is tested first; beyond if address + size is, in whole numbers
unfoldable pub access_of : ℕ → ℕ → ℕ → Access
access_of size len address = cond (eqb (address % size) 0) (cond (leb (address + size) len) Served Beyond) Misaligned

unfoldable pub on_access : {A : Type 0} → A → A → A → Access → A
on_access served beyond misaligned Served = served
on_access served beyond misaligned Beyond = beyond
on_access served beyond misaligned Misaligned = misaligned

-- document 02, A2: the particular of refusal 2, in a memory of len bytes, is the first byte that is missing, "the address itself if it lies
-- at or beyond the end, else the memory's length"
abbrev pub beyond_at : ℕ → ℕ → ℕ
beyond_at len address = cond (leb len address) address len

abbrev pub load_of : Size → List ℕ → ℕ → Result ℕ Refusal
load_of size m address =
    on_access
    (Ok (number_at (size_of size) m address))
    (Err (refusal_of 2 (beyond_at (length m) address)))
    (Err (refusal_of 3 address))
    (access_of (size_of size) (length m) address)

-- whether a store in a memory of len bytes is served
abbrev pub store_of : Size → ℕ → ℕ → Result ⊤ Refusal
store_of size len address =
    on_access (Ok tt) (Err (refusal_of 2 (beyond_at len address))) (Err (refusal_of 3 address)) (access_of (size_of size) len address)

unfoldable pub on_stored : {A : Type 0} → A → A → Result ⊤ Refusal → A
on_stored done refused (Ok tt) = done
on_stored done refused (Err r) = refused

-- the memory after a store: a refused one leaves it
abbrev pub memory_after : Size → List ℕ → ℕ → ℕ → List ℕ
memory_after size m address v = on_stored (put_at (size_of size) m address v) m (store_of size (length m) address)

-- the word at the pc
abbrev pub fetch_of : List ℕ → ℕ → Result ℕ Refusal
fetch_of m pc = on_access (Ok (number_at 4 m pc)) (Err (refusal_of 7 pc)) (Err (refusal_of 6 pc)) (access_of 4 (length m) pc)
