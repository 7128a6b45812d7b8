use Rattle.std.proofs.Common.{ℕ, ◌+◌, ◌-◌, ◌≡◌, ◌∙◌, refl, sym, ap, arith}
use Rattle.labels.specs.Bytes.{key_of}
use Rattle.labels.specs.Reading.{name_at}
use Rattle.labels.specs.Table.{slots_of, home_of, next_of, search_from, search_in}
use Rattle.labels.specs.declared.table.Name.{Name}
use Rattle.labels.proofs.Searches.{search-free, search-held, search-on}
use Rattle.labels.proofs.table.search.Goals as goal

pub returns-then-slots-eq0-clause-value : goal.returns-then-slots-eq0-clause-value
unfolding search_in search_from
returns-then-slots-eq0-clause-value c =
    let a = c.args in
    let name = name_at a.s.now a.at in
    sym (ap (λ (n : ℕ). search_from a.text.now a.table.now name n (home_of (key_of name) n)) c.if-slots-eq0.true)

pub loop-passed-init : goal.loop-passed-init
unfolding search_in search_from
loop-passed-init c =
    let a = c.args in
    let slots = slots_of a.table.now in
    let home = c.home-k.ensures.0 ∙ ap (λ (n : Name). home_of n.key slots) c.requires in
    let all : slots ≡ slots - 0 = omega arith in (
      c.home-k.ensures.1,
      (
        refl,
        ap (search_from a.text.now a.table.now (name_at a.s.now a.at) slots) (sym home)
            ∙ ap (λ (n : ℕ). search_from a.text.now a.table.now (name_at a.s.now a.at) n c.home-k.result) all,
      ),
    )

pub returns-then-q-eq0-clause-value : goal.returns-then-q-eq0-clause-value
returns-then-q-eq0-clause-value c =
    let a = c.args in
    let l = c.loop-passed in
    sym (l.invariant.1.1 ∙ search-free a.text.now a.table.now (name_at a.s.now a.at) l.k (slots_of a.table.now - l._passed) (λ z. omega arith) c.if-q-eq0.true)

pub returns-then-is_label-clause-value : goal.returns-then-is_label-clause-value
returns-then-is_label-clause-value c =
    let a = c.args in
    let l = c.loop-passed in
    sym
    (l.invariant.1.1
    ∙ search-held a.text.now a.table.now (name_at a.s.now a.at) l.k (slots_of a.table.now - l._passed) (λ z. omega arith)
    c.if-q-eq0.false (sym c.is_label.ensures ∙ c.if-is_label.true))

pub loop-passed-preserved : goal.loop-passed-preserved
loop-passed-preserved c =
    let a = c.args in
    let name = name_at a.s.now a.at in
    let slots = slots_of a.table.now in
    let l = c.loop-passed in
    let fewer : slots - l._passed - 1 ≡ slots - (l._passed + 1) = omega arith in
    let on =
    search-on a.text.now a.table.now name l.k (slots - l._passed) (λ z. omega arith) c.if-q-eq0.false (sym c.is_label.ensures ∙ c.if-is_label.false) in (
      c.next-k.ensures.1,
      (
        refl,
        l.invariant.1.1 ∙ on ∙ ap (λ (n : ℕ). search_from a.text.now a.table.now name n (next_of slots l.k)) fewer
            ∙ ap (search_from a.text.now a.table.now name (slots - (l._passed + 1))) (sym c.next-k.ensures.0),
      ),
    )

pub returns-clause-value : goal.returns-clause-value
unfolding search_from
returns-clause-value c =
    let a = c.args in
    let l = c.loop-passed in
    let none : slots_of a.table.now - l._passed ≡ 0 = omega arith in
    sym (l.invariant.1.1 ∙ ap (λ (n : ℕ). search_from a.text.now a.table.now (name_at a.s.now a.at) n l.k) none)
