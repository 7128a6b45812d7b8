-- The cases of an access, and the answer in each.
use Rattle.std.specs.Prelude.{Err, Ok, Result, ⊤}
use Prim.Native.Nat.{ℕ, ◌+◌, ◌%◌, ◌≤◌}
use mathlib.Core.Path.{◌≡◌, refl, sym}
use mathlib.Core.Bool.{Bool, true, false, cond}
use native.Mathlib.Omega.{arith}
use lib.Dec.{leb, eqb}
use borrow.Author.Tests.{leb-true}
use Rattle.refusal.specs.declared.Refusal.{Refusal}
use mathlib.Core.List.{List}
use lib.ListN.{length}
use Rattle.memory.specs.Bytes.{number_at}
use Rattle.memory.specs.Memory.{size_of, access_of, on_access, load_of, store_of}
use Rattle.memory.specs.declared.Size.{Size}
use Rattle.memory.specs.declared.Access.{Access}
use Rattle.memory.specs.declared.Access.TheVariants.{Served, Beyond, Misaligned}

-- the cases of an access, from its two tests
module _ (size len address : ℕ) where
  pub is-mis : eqb (address % size) 0 ≡ false → Misaligned ≡ access_of size len address
  unfolding access_of
  is-mis h = rw h

  pub is-beyond : eqb (address % size) 0 ≡ true → leb (address + size) len ≡ false → Beyond ≡ access_of size len address
  unfolding access_of
  is-beyond h l = rw (h, l)

  pub is-served : eqb (address % size) 0 ≡ true → leb (address + size) len ≡ true → Served ≡ access_of size len address
  unfolding access_of
  is-served h l = rw (h, l)

  -- a served access is within the memory
  pub served-fits : access_of size len address ≡ Served → address + size ≤ len
  unfolding access_of
  served-fits e = within (eqb (address % size) 0) (leb (address + size) len) refl (sym e)
    where
      within : (al fits : Bool) → leb (address + size) len ≡ fits → Served ≡ cond al (cond fits Served Beyond) Misaligned → address + size ≤ len
      within true true h e = leb-true _ _ h
      within true false h e = let z : ◌≡◌ {A = ℕ} 0 1 = cc in omega arith
      within false fits h e = let z : ◌≡◌ {A = ℕ} 0 1 = cc in omega arith

-- the answer where the access is known
module _ {A : Type 0} (served beyond mis : A) (w : Access) where
  pub on-served : w ≡ Served → served ≡ on_access served beyond mis w
  unfolding on_access
  on-served e = rw e

  pub on-beyond : w ≡ Beyond → beyond ≡ on_access served beyond mis w
  unfolding on_access
  on-beyond e = rw e

  pub on-mis : w ≡ Misaligned → mis ≡ on_access served beyond mis w
  unfolding on_access
  on-mis e = rw e

-- a store that is served is within the memory
pub stored-fits : (size : Size) (len address : ℕ) → store_of size len address ≡ Ok tt → address + size_of size ≤ len
unfolding on_access
stored-fits size len address e = served-fits (size_of size) len address (served _ _ (access_of (size_of size) len address) e)
  where
    served : (q r : Refusal) (w : Access) → on_access {A = Result ⊤ Refusal} (Ok tt) (Err q) (Err r) w ≡ Ok tt → w ≡ Served
    served q r Served e = refl
    served q r Beyond e = cc
    served q r Misaligned e = cc

-- a load is served and refused as a store is
module _ (size : Size) (m : List ℕ) (address : ℕ) where
  pub load_served : store_of size (length m) address ≡ Ok tt → load_of size m address ≡ Ok (number_at (size_of size) m address)
  unfolding on_access
  load_served e = by _ _ (access_of (size_of size) (length m) address) e
    where
      by : (q r : Refusal) (w : Access) → on_access {A = Result ⊤ Refusal} (Ok tt) (Err q) (Err r) w ≡ Ok tt
          → on_access {A = Result ℕ Refusal} (Ok (number_at (size_of size) m address)) (Err q) (Err r) w ≡ Ok (number_at (size_of size) m address)
      by q r Served e = refl
      by q r Beyond e = cc
      by q r Misaligned e = cc

  pub load_refused : (t : Refusal) → store_of size (length m) address ≡ Err t → load_of size m address ≡ Err t
  unfolding on_access
  load_refused t e = by _ _ (access_of (size_of size) (length m) address) e
    where
      by : (q r : Refusal) (w : Access) → on_access {A = Result ⊤ Refusal} (Ok tt) (Err q) (Err r) w ≡ Err t
          → on_access {A = Result ℕ Refusal} (Ok (number_at (size_of size) m address)) (Err q) (Err r) w ≡ Err t
      by q r Served e = cc
      by q r Beyond e = cc
      by q r Misaligned e = cc
