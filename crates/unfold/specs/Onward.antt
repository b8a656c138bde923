-- One statement: what its first word tells, and where the next begins. Assumes nothing.
use Rattle.std.specs.Prelude.{◌≡◌, ℕ, ◌+◌, ◌-◌, ◌/◌, ◌%◌, ◌≤◌, ◌<◌, Bool, List, ◌∷◌, ◌++◌, ◌⊎◌, get_or}
use Rattle.std.proofs.Common.{sym, ◌∙◌, arith, inl}
use Rattle.std.proofs.Math.Path.{ap, subst}
use Rattle.std.proofs.Math.Bool.{true, false}
use Rattle.std.proofs.Math.ListN.{length, length-append}
use Rattle.rules.specs.Syntax.{Exp, Arg, Stmts, end, call, loop, Callee, gate, block}
use Rattle.rules.proofs.Laws.Spelt.{AllStmts}
use Rattle.rules.proofs.Laws.Numbered.{CalleeOf}
use Rattle.tape.specs.Layout.{pack, kind_of, value_of, kind-of}
use Rattle.tape.specs.Encoding.{exp_w, stmts_w}
use Rattle.tape.specs.Resolved.{slot_w, meant_w, callee_number}
use Rattle.tape.specs.Lies.{lies-first}
use Rattle.frames.specs.Rows.{among_of}
use Rattle.unfold.specs.declared.Head.{Head}
use Rattle.unfold.specs.declared.What.{What}
use Rattle.unfold.specs.declared.What.TheVariants.{Gate, Block, Loop}
use Rattle.unfold.specs.Statements.{HereStmts, stop-over, call-rest, after-args, meant-below}
use Rattle.unfold.specs.Header.{is_among}
use Rattle.unfold.specs.Quiet.{Calm, WrittenCalm}
use Rattle.unfold.specs.Loops.{body_at, loop-ends, body-kind, loop-many, loop-index, loop-place, loop-rest, loop-calm, parts_w, call-word, call-calm, call-after}

-- the statements after the first
unfoldable pub later : Stmts ℕ Callee → Stmts ℕ Callee
later end = end
later (call p c gs ins outs rest) = rest
later (loop p i a b body rest) = rest

-- the first alone
unfoldable pub alone : Stmts ℕ Callee → Stmts ℕ Callee
alone end = end
alone (call p c gs ins outs rest) = call p c gs ins outs end
alone (loop p i a b body rest) = loop p i a b body end

-- a statement stands at `at`
pub record WrittenStatement (t : List ℕ) (at last : ℕ) : Type 0 where
  pub text : ℕ
  pub statements : Stmts ℕ Callee
  pub here : HereStmts text t at last statements
  pub some : at < last

-- ---- where the next begins

-- the words of a statement's parts, up to its body or the next statement
record Parts (len : ℕ) (t : List ℕ) (at last : ℕ) (c : Stmts ℕ Callee) : Type 0 where
  words : List ℕ
  calm : Calm t (at + 1) last words
  after : {i : ℕ} → i ≡ at + 1 + length words → among_of t i last 8 8 ≡ false → HereStmts len t i last (later c)
  past : {i : ℕ} → i ≡ at + 1 + length words → among_of t i last 8 8 ≡ true → (i < last) × HereStmts len t (i + 1 + value_of (get_or t i 0)) last (later c)

unlike : {A : Type 0} {b : Bool} → b ≡ true → b ≡ false → A
unlike e f = let z : ◌≡◌ {A = Bool} true false = sym e ∙ f in let w : ◌≡◌ {A = ℕ} 0 1 = cc in absurd (omega arith)

is-body : (t : List ℕ) (i last : ℕ) → i < last → kind_of (get_or t i 0) ≡ 8 → among_of t i last 8 8 ≡ true
is-body t i last h e = is_among t i last 8 h e

module _ (len : ℕ) {t : List ℕ} {at last : ℕ} where
  call-parts : (p : ℕ) (c : Callee) (gs : List (Exp ℕ)) (ins outs : List (Arg ℕ)) (rest : Stmts ℕ Callee) → HereStmts len t at last (call p c gs ins outs rest) → Parts len t at last (call p c gs ins outs rest)
  unfolding later
  call-parts p c gs ins outs rest h =
      let e = call-after len h in
      let o : among_of t (at + 1 + length (parts_w len h)) last 8 8 ≡ false =
      subst (λ i. among_of t i last 8 8 ≡ false) (sym e) (stop-over t _ last 8 8 (after-args len h (λ k. (k < 8) ⊎ (8 < k)) (inl (omega arith)) (inl (omega arith)))) in
      record {
        words = parts_w len h;
        calm = call-calm len h;
        after = λ q f. subst (λ i. HereStmts len t i last rest) (sym (q ∙ e)) (call-rest len h);
        past = λ q f. unlike (subst (λ i. among_of t i last 8 8 ≡ true) q f) o;
      }

  loop-parts : (p i : ℕ) (a b : Exp ℕ) (body rest : Stmts ℕ Callee) → HereStmts len t at last (loop p i a b body rest) → Parts len t at last (loop p i a b body rest)
  unfolding later
  loop-parts p i a b body rest h =
      let n = length-append (exp_w slot_w 0 a) (exp_w slot_w 0 b) in
      let e : at + 1 + length (pack 7 0 i ∷ (exp_w slot_w 0 a ++ exp_w slot_w 0 b)) ≡ body_at len h = omega (arith, n) in
      let x = loop-ends len h in
      let o : among_of t (body_at len h) last 8 8 ≡ true = is-body t _ last (omega (arith, x)) (body-kind len h) in
      record {
        words = pack 7 0 i ∷ (exp_w slot_w 0 a ++ exp_w slot_w 0 b);
        calm = loop-calm len h;
        after = λ q f. unlike (subst (λ i. among_of t i last 8 8 ≡ true) (sym (q ∙ e)) o) f;
        past = λ q f. (omega (arith, x, q, e), subst (λ i. HereStmts len t (i + 1 + value_of (get_or t i 0)) last rest) (sym (q ∙ e)) (subst (λ n. HereStmts len t (body_at len h + 1 + n) last rest) (sym (loop-many len h)) (loop-rest len h)));
      }

  parts : (c : Stmts ℕ Callee) → HereStmts len t at last c → at < last → Parts len t at last c
  unfolding stmts_w
  parts end h s = absurd (omega (arith, h.ends))
  parts (call p c gs ins outs rest) h s = call-parts p c gs ins outs rest h
  parts (loop p i a b body rest) h s = loop-parts p i a b body rest h

-- the place after the statement at `at`, from that of its body or of the next statement
pub onward : (len : ℕ) {t : List ℕ} {at last i : ℕ} (c : Stmts ℕ Callee) → HereStmts len t at last c → at < last → ((ws : List ℕ) → Calm t (at + 1) last ws → i ≡ at + 1 + length ws)
    → among_of t i last 8 8 ≡ false → HereStmts len t i last (later c) × (at < i)
onward len c h s w f = let p = parts len c h s in let e = w p.words p.calm in (p.after e f, omega (arith, e))

pub beyond : (len : ℕ) {t : List ℕ} {at last i : ℕ} (c : Stmts ℕ Callee) → HereStmts len t at last c → at < last → ((ws : List ℕ) → Calm t (at + 1) last ws → i ≡ at + 1 + length ws)
    → among_of t i last 8 8 ≡ true → (i < last) × HereStmts len t (i + 1 + value_of (get_or t i 0)) last (later c) × (at < i + 1 + value_of (get_or t i 0))
beyond len {t} {at} {last} {i} c h s w f =
    let p = parts len c h s in
    let e = w p.words p.calm in
    let (l, r) = p.past e f in
    (l, r, omega (arith, e))

pub calm_of : {t : List ℕ} {at last : ℕ} → WrittenStatement t at last → WrittenCalm t (at + 1) last
calm_of w = let p = parts w.text w.statements w.here w.some in record { words = p.words; calm = p.calm }

-- ---- what the first word tells

pub record IsCall (m : Callee) (p : ℕ) (c : Stmts ℕ Callee) : Type 0 where
  pub generics : List (Exp ℕ)
  pub inputs : List (Arg ℕ)
  pub outputs : List (Arg ℕ)
  pub rest : Stmts ℕ Callee
  pub is : c ≡ call p m generics inputs outputs rest

pub record IsLoop (i p : ℕ) (c : Stmts ℕ Callee) : Type 0 where
  pub first : Exp ℕ
  pub second : Exp ℕ
  pub body : Stmts ℕ Callee
  pub rest : Stmts ℕ Callee
  pub is : c ≡ loop p i first second body rest

-- what a statement is, whose place is p
unfoldable pub IsWhat : Stmts ℕ Callee → ℕ → What → Type 0
IsWhat c p (Gate k) = (k < 10) × IsCall (gate k) p c
IsWhat c p (Block b) = (b < 64) × IsCall (block b) p c
IsWhat c p (Loop i) = (i < 48) × IsLoop i p c

abbrev pub Heads : Stmts ℕ Callee → Head → Type 0
Heads c h = IsWhat c h.place h.what

module _ (len : ℕ) where
  number_of : (p : ℕ) (c : Callee) → CalleeOf len p c → (callee_number c < 128) × ((v : ℕ) → v ≡ meant_w p c → (v % 128 ≡ callee_number c) × (v / 128 ≡ p))
  unfolding CalleeOf callee_number
  number_of p (gate k) q = (omega (arith, q.1), λ v e. (omega (arith, e, q.1), omega (arith, e, q.1)))
  number_of p (block b) q = (omega (arith, q.1), λ v e. (omega (arith, e, q.1), omega (arith, e, q.1)))

  by-gate : (p : ℕ) (c : Callee) (gs : List (Exp ℕ)) (ins outs : List (Arg ℕ)) (rest : Stmts ℕ Callee) (k q : ℕ) → CalleeOf len p c → k ≡ callee_number c → q ≡ p → k < 10 → IsWhat (call p c gs ins outs rest) q (Gate k)
  unfolding IsWhat callee_number CalleeOf
  by-gate p (gate k) gs ins outs rest m q s e f l = (l, record { generics = gs; inputs = ins; outputs = outs; rest = rest; is = rw (e, f) })
  by-gate p (block b) gs ins outs rest m q s e f l = absurd (omega (arith, e))

  by-block : (p : ℕ) (c : Callee) (gs : List (Exp ℕ)) (ins outs : List (Arg ℕ)) (rest : Stmts ℕ Callee) (b q : ℕ) → CalleeOf len p c → 10 + b ≡ callee_number c → q ≡ p → IsWhat (call p c gs ins outs rest) q (Block b)
  unfolding IsWhat callee_number CalleeOf
  by-block p (gate k) gs ins outs rest m q s e f = absurd (omega (arith, e, s.1))
  by-block p (block b) gs ins outs rest m q s e f = let x : m ≡ b = omega (arith, e) in (omega (arith, x, s.1), record { generics = gs; inputs = ins; outputs = outs; rest = rest; is = rw (x, f) })

module _ (len : ℕ) {t : List ℕ} {at last : ℕ} where
  call-kind : (p : ℕ) (c : Callee) (gs : List (Exp ℕ)) (ins outs : List (Arg ℕ)) (rest : Stmts ℕ Callee) → HereStmts len t at last (call p c gs ins outs rest) → kind_of (get_or t at 0) ≡ 3
  unfolding stmts_w AllStmts
  call-kind p c gs ins outs rest h = ap kind_of (lies-first h.lies) ∙ kind-of 3 0 (meant_w p c) (omega arith) (meant-below len p c h.sound.0 h.text)

  loop-kind : (p i : ℕ) (a b : Exp ℕ) (body rest : Stmts ℕ Callee) → HereStmts len t at last (loop p i a b body rest) → kind_of (get_or t at 0) ≡ 6
  unfolding stmts_w AllStmts
  loop-kind p i a b body rest h = ap kind_of (lies-first h.lies) ∙ kind-of 6 0 p (omega arith) (omega (arith, h.sound.0, h.text))

  pub head-loop : (c : Stmts ℕ Callee) → HereStmts len t at last c → at < last → kind_of (get_or t at 0) ≡ 6 → IsWhat c (value_of (get_or t at 0)) (Loop (value_of (get_or t (at + 1) 0)))
  unfolding stmts_w IsWhat
  head-loop end h s k = absurd (omega (arith, h.ends))
  head-loop (call p c gs ins outs rest) h s k = absurd (omega (arith, k, call-kind p c gs ins outs rest h))
  head-loop (loop p i a b body rest) h s k =
      let (e, l) = loop-index len h in
      (omega (arith, e, l), record { first = a; second = b; body = body; rest = rest; is = rw (loop-place len h, e) })

  -- a loop's index stands after its word
  pub index-room : (c : Stmts ℕ Callee) → HereStmts len t at last c → at < last → kind_of (get_or t at 0) ≡ 6 → at + 1 < length t
  unfolding stmts_w
  index-room end h s k = absurd (omega (arith, h.ends))
  index-room (call p c gs ins outs rest) h s k = absurd (omega (arith, k, call-kind p c gs ins outs rest h))
  index-room (loop p i a b body rest) h s k = omega (arith, loop-ends len h, h.limit)

  pub head-gate : (c : Stmts ℕ Callee) → HereStmts len t at last c → at < last → (kind_of (get_or t at 0) ≡ 6 → ⊥) → value_of (get_or t at 0) % 128 < 10 → IsWhat c (value_of (get_or t at 0) / 128) (Gate (value_of (get_or t at 0) % 128))
  unfolding stmts_w AllStmts
  head-gate end h s k l = absurd (omega (arith, h.ends))
  head-gate (call p c gs ins outs rest) h s k l = let e = (number_of len p c h.sound.0).1 _ (call-word len h) in by-gate len p c gs ins outs rest _ _ h.sound.0 e.0 e.1 l
  head-gate (loop p i a b body rest) h s k l = absurd (k (loop-kind p i a b body rest h))

  pub head-block : (c : Stmts ℕ Callee) → HereStmts len t at last c → at < last → (kind_of (get_or t at 0) ≡ 6 → ⊥) → 10 ≤ value_of (get_or t at 0) % 128 → IsWhat c (value_of (get_or t at 0) / 128) (Block (value_of (get_or t at 0) % 128 - 10))
  unfolding stmts_w AllStmts
  head-block end h s k l = absurd (omega (arith, h.ends))
  head-block (call p c gs ins outs rest) h s k l = let e = (number_of len p c h.sound.0).1 _ (call-word len h) in by-block len p c gs ins outs rest _ _ h.sound.0 (omega (arith, e.0, l)) e.1
  head-block (loop p i a b body rest) h s k l = absurd (k (loop-kind p i a b body rest h))
