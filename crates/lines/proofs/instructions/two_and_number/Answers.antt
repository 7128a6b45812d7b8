use Rattle.std.proofs.Common.{None, Some, [], ◌∷◌, drop, pos, ◌∙◌, rules}
use Rattle.sums.specs.Code.{look_in}
use Rattle.lines.specs.Lines.{register, immediate, parts}
use Rattle.lines.proofs.Words.{first-bad, first-got, last_none, last_some, register-any, none-word, some_word, bits-of, parts-two}
use Rattle.lines.proofs.instructions.two_and_number.Goals as goal

pub returns-in_err-a : goal.returns-in_err-a
returns-in_err-a c =
    let scope = c.args.scope in
    let look = look_in scope.text.now scope.table.now scope.base in
    rw c.from_residual.ensures
    (none-word c.args.op _
    (first-bad look register register (immediate ∷ []) (drop c.args.at c.args.s.now) (register-any look (look_in [] [] 0) _ _ c.in_err-a.ensures.0)))

pub returns-in_err-b : goal.returns-in_err-b
returns-in_err-b c =
    let s = c.args.s.now in
    let scope = c.args.scope in
    let look = look_in scope.text.now scope.table.now scope.base in
    rw c.from_residual-in_err-b.ensures
    (none-word c.args.op _
    (first-got look register register (immediate ∷ []) (drop c.args.at s) (pos c.in_ok-a.a) (drop c.in_ok-a.m s) None
    (register-any look (look_in [] [] 0) _ _ c.in_ok-a.ensures.0)
    (first-bad look register immediate [] (drop c.in_ok-a.m s) (register-any look (look_in [] [] 0) _ _ c.in_err-b.ensures.0))))

pub returns-in_err-v : goal.returns-in_err-v
returns-in_err-v c =
    let s = c.args.s.now in
    let scope = c.args.scope in
    let look = look_in scope.text.now scope.table.now scope.base in
    rw c.from_residual-in_err-v.ensures
    (none-word c.args.op _
    (first-got look register register (immediate ∷ []) (drop c.args.at s) (pos c.in_ok-a.a) (drop c.in_ok-a.m s) None
    (register-any look (look_in [] [] 0) _ _ c.in_ok-a.ensures.0)
    (first-got look register immediate [] (drop c.in_ok-a.m s) (pos c.in_ok-b.b) (drop c.in_ok-b.n s) None
    (register-any look (look_in [] [] 0) _ _ c.in_ok-b.ensures.0)
    (last_none look immediate (drop c.in_ok-b.n s) c.in_err-v.ensures))))

pub returns : goal.returns
returns c =
    let s = c.args.s.now in
    let scope = c.args.scope in
    let look = look_in scope.text.now scope.table.now scope.base in
    let x = pos c.in_ok-a.a in
    let y = pos c.in_ok-b.b in
    let v = c.in_ok-v.v in
    some_word c.args.op _ (x ∷ (y ∷ (v ∷ []))) (parts c.args.op c.in_ok-a.a c.in_ok-b.b 0 c.cast_unsigned.result)
    (first-got look register register (immediate ∷ []) (drop c.args.at s) x (drop c.in_ok-a.m s) (Some (y ∷ (v ∷ [])))
    (register-any look (look_in [] [] 0) _ _ c.in_ok-a.ensures.0)
    (first-got look register immediate [] (drop c.in_ok-a.m s) y (drop c.in_ok-b.n s) (Some (v ∷ []))
    (register-any look (look_in [] [] 0) _ _ c.in_ok-b.ensures.0)
    (last_some look immediate (drop c.in_ok-b.n s) v _ c.in_ok-v.ensures)))
    (parts-two c.args.op c.in_ok-a.a c.in_ok-b.b v c.cast_unsigned.result c.requires (bits-of v _ (search rules) c.cast_unsigned.ensures))
    ∙ c.word.ensures
