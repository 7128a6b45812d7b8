-- Inner: the parts of an image as the code counts them: how many pages are held, their bodies, and the table, which that number decides.
use Rattle.std.specs.Prelude.{ℕ, zero, suc, ◌+◌, ◌*◌, cond, List, [], ◌++◌, take, drop}
use Rattle.memory.specs.Bytes.{bytes}
use Rattle.layout.specs.Layout.{STATE_BYTES}
use Rattle.checkpoint.specs.Image.{PAGE_BYTES, all_zero}

abbrev pub BODY_BYTES : ℕ
BODY_BYTES = 8 + PAGE_BYTES

-- of the n pages of m
unfoldable pub held : ℕ → List ℕ → ℕ
held zero m = 0
held (suc n) m = cond (all_zero (take PAGE_BYTES m)) 0 1 + held n (drop PAGE_BYTES m)

unfoldable pub body : ℕ → List ℕ → List ℕ
body at page = cond (all_zero page) [] (bytes 8 at ++ page)

unfoldable pub bodies : ℕ → ℕ → List ℕ → List ℕ
bodies zero at m = []
bodies (suc n) at m = body at (take PAGE_BYTES m) ++ bodies n (at + PAGE_BYTES) (drop PAGE_BYTES m)

unfoldable pub table_entry : ℕ → ℕ → ℕ → List ℕ
table_entry kind offset size = bytes 4 kind ++ (bytes 4 offset ++ bytes 4 size)

-- the entries of n pages whose bodies start at an offset
unfoldable pub entries : ℕ → ℕ → List ℕ
entries zero offset = []
entries (suc n) offset = table_entry 2 offset BODY_BYTES ++ entries n (offset + BODY_BYTES)

abbrev pub table_bytes : ℕ → ℕ
table_bytes n = 16 + 12 * n

-- the table of a state and n pages
unfoldable pub table_of : ℕ → List ℕ
table_of n = bytes 4 (n + 1) ++ (table_entry 1 (table_bytes n) STATE_BYTES ++ entries n (table_bytes n + STATE_BYTES))
