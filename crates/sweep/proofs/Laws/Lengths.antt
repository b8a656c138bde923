-- Resolving names leaves as many words as it takes. Assumes nothing.
use Rattle.std.specs.Prelude.{◌≡◌, refl, List, [], ◌∷◌, ◌++◌, ℕ, suc, length}
use Rattle.std.proofs.Common.{sym, ap, ◌∙◌, arith, length-append}
use Rattle.rules.specs.Outcome.{ok}
use Rattle.rules.specs.Syntax.{Name, Sort, wire, vector, num, Decl, Block, Spelled, Callee, Program}
use Rattle.rules.specs.Names.{Scope, declared}
use Rattle.rules.specs.Resolve.{sort, declarations, resolve_block, resolve_blocks, names}
use Rattle.rules.proofs.Laws.Outcomes.{ok-inj, inv, inv_at}
use Rattle.tape.specs.Layout.{pack, BODY, IN, OUT, VAR, name_w}
use Rattle.tape.specs.Encoding.{list_w, exp_w, stmts_w, sort_w, decl_w, generic_w, block_w, callee_w, tape_of}
use Rattle.tape.specs.Resolved.{slot_w, meant_w, resolved_tape}
use Rattle.sweep.proofs.Laws.Expressions.{exp-length}
use Rattle.sweep.proofs.Laws.Bodies.{stmts-length}
use Rattle.sweep.proofs.Laws.Blocks.{five}

sort-length : (E : Scope) (k v : ℕ) (t : Sort Name) {t' : Sort ℕ} → sort E t ≡ ok t' → length (sort_w slot_w k v t') ≡ length (sort_w name_w k v t)
unfolding sort sort_w
sort-length E k v wire q = rw (← (ok-inj q)) refl
sort-length E k v (vector a b) q =
    inv _ _ q λ a' qa q₁. inv _ _ q₁ λ b' qb q₂.
    let x = exp-length E [] a 0 0 qa in
    let y = exp-length E [] b 0 0 qb in
    rw (← (ok-inj q₂)) (omega (arith, length-append (exp_w slot_w 0 a') (exp_w slot_w 0 b'), length-append (exp_w name_w 0 a) (exp_w name_w 0 b)))
sort-length E k v num q = rw (← (ok-inj q)) refl

decls-length : (E : Scope) (k : ℕ) (ds : List (Decl Name)) {ds' : List (Decl ℕ)} → declarations E ds ≡ ok ds' → length (list_w (decl_w slot_w k) ds') ≡ length (list_w (decl_w name_w k) ds)
unfolding declarations list_w decl_w
decls-length E k [] q = rw (← (ok-inj q)) refl
decls-length E k (d ∷ ds) q =
    inv _ _ q λ _ _ q₁. inv _ _ q₁ λ t qt q₂. inv _ _ q₂ λ r qr q₃.
    let x = sort-length E k (name_w d.name) d.sort qt in
    let y = decls-length (E ++ (declared d ∷ [])) k ds qr in
    rw (← (ok-inj q₃)) (omega (arith, length-append (sort_w slot_w k (name_w d.name) t) (list_w (decl_w slot_w k) r), length-append (sort_w name_w k (name_w d.name) d.sort) (list_w (decl_w name_w k) ds)))

block-length : (Bs : Spelled) (earlier : List (List ℕ)) (B : Block Name Name) {B' : Block ℕ Callee} → resolve_block Bs earlier B ≡ ok B' → length (block_w slot_w meant_w B') ≡ length (block_w name_w callee_w B)
unfolding resolve_block block_w
block-length Bs earlier B q =
    inv_at _ _ _ q λ _ _ q₁. inv _ _ q₁ λ _ _ q₂. inv _ _ q₂ λ ins qi q₃. inv _ _ q₃ λ outs qo q₄. inv _ _ q₄ λ vs qv q₅. inv _ _ q₅ λ b qb q₆.
    rw (← (ok-inj q₆)) (ap suc (five (list_w generic_w B.generics) (list_w (decl_w slot_w IN) ins) (list_w (decl_w slot_w OUT) outs) (list_w (decl_w slot_w VAR) vs) (pack BODY 0 (length (stmts_w slot_w meant_w b)) ∷ stmts_w slot_w meant_w b)
    ∙ rw (decls-length _ IN B.inputs qi, decls-length _ OUT B.outputs qo, decls-length _ VAR B.locals qv, stmts-length Bs _ [] B.body qb)
    (sym (five (list_w generic_w B.generics) (list_w (decl_w name_w IN) B.inputs) (list_w (decl_w name_w OUT) B.outputs) (list_w (decl_w name_w VAR) B.locals) (pack BODY 0 (length (stmts_w name_w callee_w B.body)) ∷ stmts_w name_w callee_w B.body)))))

blocks-length : (Bs : Spelled) (earlier : List (List ℕ)) (rest : Spelled) {blocks : List (Block ℕ Callee)} → resolve_blocks Bs earlier rest ≡ ok blocks → length (list_w (block_w slot_w meant_w) blocks) ≡ length (list_w (block_w name_w callee_w) rest)
unfolding resolve_blocks list_w
blocks-length Bs earlier [] q = rw (← (ok-inj q)) refl
blocks-length Bs earlier (B ∷ rest) q =
    inv _ _ q λ b qb q₁. inv _ _ q₁ λ r qr q₂.
    let x = block-length Bs earlier B qb in
    let y = blocks-length Bs _ rest qr in
    rw (← (ok-inj q₂)) (omega (arith, length-append (block_w slot_w meant_w b) (list_w (block_w slot_w meant_w) r), length-append (block_w name_w callee_w B) (list_w (block_w name_w callee_w) rest)))

pub tape-length : (len : ℕ) (Bs : Spelled) {P : Program} → names len Bs ≡ ok P → length (resolved_tape P) ≡ length (tape_of Bs)
unfolding names
tape-length len Bs q = inv _ _ q λ blocks qb q₁. inv _ _ q₁ λ m _ q₂. rw (← (ok-inj q₂)) (blocks-length Bs [] Bs qb)
