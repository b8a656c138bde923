use Rattle.std.proofs.Common.{rules, ◌-◌, sym, ◌∙◌, arith}
use Rattle.expressions.specs.Factors.{at-bad, at_other, minus-over, open-over, negated, inside-off, grouped, named, numbered, paired}
use Rattle.marks.specs.Laws.Chains.{start, ends, off, go_on}
use Rattle.marks.specs.Laws.Exits.{gives_on}
use Rattle.marks.specs.Laws.One.{past}
use Rattle.rules.specs.Grammar.{chain, factor}
use Rattle.rules.proofs.Laws.Enough.{enough}
use Rattle.rules.specs.Outcome.{◌>>=◌ as ◌and-then◌}
use Rattle.rules.specs.Readers.{◌>>=◌}
use Rattle.tape.specs.Encoding.{exp_w}
use Rattle.tape.specs.Layout.{flip, name_w}
use Rattle.tape.specs.Written.{Gives, none}
use Rattle.expressions.proofs.+expression_factor_term.Goals as goal

pub expression-returns-in_err-read-clause-gives : goal.expression-returns-in_err-read-clause-gives
unfolding chain ◌>>=◌ ◌and-then◌
expression-returns-in_err-read-clause-gives t c = gives_on none (exp_w name_w c.args.head) _ _ _ _ _ c.from_residual.ensures.1 (rw c.in_err-read.ensures.gives)

pub expression-returns-in_err-read-2-clause-gives : goal.expression-returns-in_err-read-2-clause-gives
expression-returns-in_err-read-2-clause-gives t c =
    let G = c.loop-next.invariant.0 _ (start _ c.in_ok-read.ensures.gives) in
    gives_on none (exp_w name_w c.args.head) _ _ _ _ _ c.from_residual-in_err-read-2.ensures.1 (off ((enough _).sums _) G (omega (arith, c.loop-next.invariant)) c.in-Some.ensures.joins c.in_err-read-2.ensures.gives)

pub expression-loop-next-preserved : goal.expression-loop-next-preserved
expression-loop-next-preserved t c =
    let j = c.in-Some.ensures in
    let u = c.in_ok-read-2.ensures in (
      λ t g. go_on ((enough _).sums _) (c.loop-next.invariant.0 t g) (omega (arith, c.loop-next.invariant)) j.joins u.gives,
      c.term-in-Some.auto.tape ∙ c.loop-next.invariant.1,
      omega (arith, c.loop-next.invariant, j.joined, u.spends),
      u.gives.counts,
    )

pub expression-returns-clause-gives : goal.expression-returns-clause-gives
expression-returns-clause-gives t c =
    let G = c.loop-next.invariant.0 _ (start _ c.in_ok-read.ensures.gives) in
    rw c.loop-next.invariant.3 (ends ((enough _).sums _) G (omega (arith, c.loop-next.invariant)) c.in_default.ensures.joins)

pub factor-returns-then-left-eq0-clause-gives : goal.factor-returns-then-left-eq0-clause-gives
factor-returns-then-left-eq0-clause-gives t c = minus-over _ _ _ (sym c.in-Mark.ensures.value) (c.if-b-code.true ∙ c.code.ensures) c.if-left-eq0.true

pub factor-returns-then-b-code-clause-gives : goal.factor-returns-then-b-code-clause-gives
factor-returns-then-b-code-clause-gives t c =
    let h = rw c.flipped.ensures.0 at c.factor.ensures.gives in
    let g : Gives none (exp_w name_w (flip c.args.head)) (factor c.args.text.now (c.args.left - 1) c.in-Mark.next) c.args.tape.now c.args.to c.factor.new.tape c.factor.result = search rules in
    negated _ _ _ (sym c.in-Mark.ensures.value) _ _ _ _ c.factor.result (c.if-b-code.true ∙ c.code.ensures) c.if-left-eq0.false g

pub factor-returns-then-left-eq0-2-clause-gives : goal.factor-returns-then-left-eq0-2-clause-gives
factor-returns-then-left-eq0-2-clause-gives t c =
    open-over _ _ _ (sym c.in-Mark.ensures.value) (rw c.code.ensures at c.if-b-code.false) (c.if-b-code-2.true ∙ c.code-in-Mark.ensures) c.if-left-eq0-2.true

pub factor-expression-requires : goal.factor-expression-requires
factor-expression-requires t c =
    let w = past _ _ _ _ _ _ (c.if-b-code-2.true ∙ c.code-in-Mark.ensures) c.requires.0.1 c.in-Mark.ensures.onward in
    (omega (arith, c.decreases, c.if-left-eq0-2.false), ((c.requires.0.0, omega arith, omega (arith, c.requires.0, c.if-left-eq0-2.false)), omega arith))

pub factor-returns-in_err-inner-in-Mark-clause-gives : goal.factor-returns-in_err-inner-in-Mark-clause-gives
factor-returns-in_err-inner-in-Mark-clause-gives t c =
    gives_on none (exp_w name_w c.args.head) _ _ _ _ _ c.from_residual.ensures.1
    (inside-off _ _ _ (sym c.in-Mark.ensures.value) (rw c.code.ensures at c.if-b-code.false) (c.if-b-code-2.true ∙ c.code-in-Mark.ensures) c.if-left-eq0-2.false c.in_err-inner-in-Mark.ensures.gives)

pub factor-close-requires : goal.factor-close-requires
factor-close-requires t c =
    let w = past _ _ _ _ _ _ (c.if-b-code-2.true ∙ c.code-in-Mark.ensures) c.requires.0.1 c.in-Mark.ensures.onward in
    omega (arith, c.requires, c.if-left-eq0-2.false, c.expression.auto.tape, c.in_ok-inner-in-Mark.ensures.spends)

pub factor-returns-then-b-code-2-clause-gives : goal.factor-returns-then-b-code-2-clause-gives
factor-returns-then-b-code-2-clause-gives t c =
    grouped _ _ _ (sym c.in-Mark.ensures.value) (rw c.code.ensures at c.if-b-code.false) (c.if-b-code-2.true ∙ c.code-in-Mark.ensures) c.if-left-eq0-2.false _ _ _ _ _ _ _ c.close.result c.in_ok-inner-in-Mark.ensures.gives c.close.ensures

pub factor-returns-then-b-code-2-clause-spends : goal.factor-returns-then-b-code-2-clause-spends
factor-returns-then-b-code-2-clause-spends t c =
    let w = past _ _ _ _ _ _ (c.if-b-code-2.true ∙ c.code-in-Mark.ensures) c.requires.0.1 c.in-Mark.ensures.onward in
    let u = c.in_ok-inner-in-Mark.ensures.spends in
    paired _ c.args.at c.in-Mark.next c.in_ok-inner-in-Mark.inner.next c.args.to c.in_ok-inner-in-Mark.inner.end _ _ _ c.close.result (omega arith) (omega arith) (omega arith) (omega arith) c.close.ensures

pub factor-returns-in-Bad-clause-gives : goal.factor-returns-in-Bad-clause-gives
factor-returns-in-Bad-clause-gives t c = at-bad _ _ _ (sym c.in-Bad.ensures.value) ∙ rw (c.unwanted.ensures, c.in-Bad.is)

pub factor-returns-in-Name-clause-gives : goal.factor-returns-in-Name-clause-gives
factor-returns-in-Name-clause-gives t c =
    let o = c.in-Name.ensures.onward in
    named _ _ _ _ _ _ _ (sym c.in-Name.ensures.value) (omega arith) c.store_name.ensures

pub factor-returns-in-Number-clause-gives : goal.factor-returns-in-Number-clause-gives
factor-returns-in-Number-clause-gives t c = numbered _ _ _ _ _ _ _ (sym c.in-Number.ensures.value) c.store.ensures

pub factor-returns-else-b-code-2-clause-gives : goal.factor-returns-else-b-code-2-clause-gives
factor-returns-else-b-code-2-clause-gives t c = at_other _ _ _ (sym c.in-Mark.ensures.value) (rw c.code.ensures at c.if-b-code.false) (rw c.code-in-Mark.ensures at c.if-b-code-2.false) ∙ rw c.unwanted-in-Mark.ensures

pub term-returns-in_err-read-clause-gives : goal.term-returns-in_err-read-clause-gives
unfolding chain ◌>>=◌ ◌and-then◌
term-returns-in_err-read-clause-gives t c = gives_on none (exp_w name_w c.args.head) _ _ _ _ _ c.from_residual.ensures.1 (rw c.in_err-read.ensures.gives)

pub term-returns-in_err-read-2-clause-gives : goal.term-returns-in_err-read-2-clause-gives
term-returns-in_err-read-2-clause-gives t c =
    let G = c.loop-next.invariant.0 _ (start _ c.in_ok-read.ensures.gives) in
    gives_on none (exp_w name_w c.args.head) _ _ _ _ _ c.from_residual-in_err-read-2.ensures.1 (off ((enough _).products _) G (omega (arith, c.loop-next.invariant)) c.in-Some.ensures.joins c.in_err-read-2.ensures.gives)

pub term-loop-next-preserved : goal.term-loop-next-preserved
term-loop-next-preserved t c =
    let j = c.in-Some.ensures in
    let u = c.in_ok-read-2.ensures in (
      λ t g. go_on ((enough _).products _) (c.loop-next.invariant.0 t g) (omega (arith, c.loop-next.invariant)) j.joins u.gives,
      c.factor-in-Some.auto.tape ∙ c.loop-next.invariant.1,
      omega (arith, c.loop-next.invariant, j.joined, u.spends),
      u.gives.counts,
    )

pub term-returns-clause-gives : goal.term-returns-clause-gives
term-returns-clause-gives t c =
    let G = c.loop-next.invariant.0 _ (start _ c.in_ok-read.ensures.gives) in
    rw c.loop-next.invariant.3 (ends ((enough _).products _) G (omega (arith, c.loop-next.invariant)) c.in_default.ensures.joins)
