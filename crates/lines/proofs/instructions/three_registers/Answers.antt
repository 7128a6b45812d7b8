use Rattle.std.proofs.Common.{None, Some, [], ◌∷◌, drop, pos, ◌∙◌}
use Rattle.sums.specs.Code.{look_in}
use Rattle.lines.specs.Lines.{register, parts}
use Rattle.lines.proofs.Words.{first-bad, first-got, last_none, last_some, none-word, some_word, parts-three}
use Rattle.lines.proofs.instructions.three_registers.Goals as goal

pub returns-in_err-a : goal.returns-in_err-a
returns-in_err-a c =
    rw c.from_residual.ensures
    (none-word c.args.op _ (first-bad (look_in [] [] 0) register register (register ∷ []) (drop c.args.at c.args.s.now) c.in_err-a.ensures.0))

pub returns-in_err-b : goal.returns-in_err-b
returns-in_err-b c =
    let s = c.args.s.now in
    let look = look_in [] [] 0 in
    rw c.from_residual-in_err-b.ensures
    (none-word c.args.op _
    (first-got look register register (register ∷ []) (drop c.args.at s) (pos c.in_ok-a.a) (drop c.in_ok-a.m s) None c.in_ok-a.ensures.0
    (first-bad look register register [] (drop c.in_ok-a.m s) c.in_err-b.ensures.0)))

pub returns-in_err-c : goal.returns-in_err-c
returns-in_err-c c =
    let s = c.args.s.now in
    let look = look_in [] [] 0 in
    rw c.from_residual-in_err-c.ensures
    (none-word c.args.op _
    (first-got look register register (register ∷ []) (drop c.args.at s) (pos c.in_ok-a.a) (drop c.in_ok-a.m s) None c.in_ok-a.ensures.0
    (first-got look register register [] (drop c.in_ok-a.m s) (pos c.in_ok-b.b) (drop c.in_ok-b.n s) None c.in_ok-b.ensures.0
    (last_none look register (drop c.in_ok-b.n s) c.in_err-c.ensures.0))))

pub returns : goal.returns
returns c =
    let s = c.args.s.now in
    let look = look_in [] [] 0 in
    let x = pos c.in_ok-a.a in
    let y = pos c.in_ok-b.b in
    let z = pos c.in_ok-c.c in
    some_word c.args.op _ (x ∷ (y ∷ (z ∷ []))) (parts c.args.op c.in_ok-a.a c.in_ok-b.b c.in_ok-c.c 0)
    (first-got look register register (register ∷ []) (drop c.args.at s) x (drop c.in_ok-a.m s) (Some (y ∷ (z ∷ []))) c.in_ok-a.ensures.0
    (first-got look register register [] (drop c.in_ok-a.m s) y (drop c.in_ok-b.n s) (Some (z ∷ [])) c.in_ok-b.ensures.0
    (last_some look register (drop c.in_ok-b.n s) z _ c.in_ok-c.ensures.0)))
    (parts-three c.args.op c.in_ok-a.a c.in_ok-b.b c.in_ok-c.c c.requires)
    ∙ c.word.ensures
