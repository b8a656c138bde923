-- Bits for all of main's port wires can be cut into bits for each port, so demand 3 may speak of bits on main's ports. Assumes nothing.
use Rattle.std.specs.Prelude.{◌≡◌, refl, ◌↔◌, ℕ, zero, suc, ◌+◌, ◌-◌, List, [], ◌∷◌, ◌++◌, length, take, drop, T, eqb}
use Rattle.std.proofs.Common.{sym, ap, ◌∙◌, subst, arith, length-drop, take-append-drop, length-take-le}
use Rattle.std.proofs.Math.Dec.{eqb_refl}
use Rattle.rules.specs.Outcome.{ok, nth}
use Rattle.rules.specs.Syntax.{Decl, Block, Callee, Program}
use Rattle.rules.specs.Values.{Env, generics}
use Rattle.rules.specs.Frames.{Frame, tie}
use Rattle.rules.specs.Netlist.{net_words}
use Rattle.rules.specs.Unfold.{Range, State, declare, Unfolded, unfold_main}
use Rattle.rules.specs.Text.{joined}
use Rattle.rules.specs.Meaning.{Signal, Bits, AllowsAt, BlockAllows, Allows, NetAllows}
use Rattle.rules.proofs.Laws.Outcomes.{ok-inj, inv, inv_at, bind_ok, yes-need, ok-when, when-inv, nth-any}
use Rattle.rules.proofs.Laws.Carried.{carried-length}
use Rattle.rules.proofs.Laws.Same.{start, declare-append, declare-grows, there, back}

record Cut (ρ : Env) (ds : List (Decl ℕ)) (bits : List Signal) : Type 0 where
  ports : List (List Signal)
  same : joined ports ≡ bits
  names : Frame (List Signal)
  tied : tie Bits ρ ds ports ≡ ok names

cut : (ρ : Env) (ds : List (Decl ℕ)) (σ : Frame Range) (s : State) (r : Frame Range × State) (bits : List Signal)
    → declare ρ ds σ s ≡ ok r → s.next + length bits ≡ r.1.next → Cut ρ ds bits
unfolding declare tie joined
cut ρ [] σ s r [] e l = record { ports = []; same = refl; names = []; tied = refl }
cut ρ [] σ s r (b ∷ bits) e l = absurd (omega (arith, ap (λ r. r.1.next) (ok-inj e)))
cut ρ (d ∷ ds) σ s r bits e l =
    inv_at _ _ _ e λ h e₁ e₂.
    inv_at _ _ _ e₂ λ _ _ e₃.
    let g = declare-grows ρ ds _ _ r e₃ in
    let n : length (take h.size bits) ≡ h.size = length-take-le h.size bits (omega (arith, g)) in
    let c = cut ρ ds _ _ r (drop h.size bits) e₃ (omega (arith, g, length-drop h.size bits)) in
    record {
      ports = take h.size bits ∷ c.ports;
      same = ap (λ l. take h.size bits ++ l) c.same ∙ take-append-drop h.size bits;
      names = record { low = h.low; cells = take h.size bits } ∷ c.names;
      tied = bind_ok _ e₁ (bind_ok _ (yes-need _ 13 (subst (λ k. T (eqb h.size k)) (sym n) (eqb_refl h.size))) (bind_ok _ c.tied refl));
    }

-- main's ports are tied to the bits that it allows
tied-main : (P : Program) (M : Block ℕ Callee) (d : ℕ) (ports : List (List Signal)) → nth 7 P.blocks P.main ≡ ok M
    → AllowsAt P d P.main [] ports → (β : Frame (List Signal)) × (tie Bits (generics []) (M.inputs ++ M.outputs) ports ≡ ok β)
unfolding AllowsAt BlockAllows
tied-main P M zero ports e h = absurd h
tied-main P M (suc d) ports e h = when-inv _ _ (ok-when _ e h) λ β et _. (β, et)

-- program and netlist allow the same bits on main's ports, whatever words z stand after the netlist
pub alike : (P : Program) (u : Unfolded) → unfold_main P ≡ ok u → (z : List ℕ) (bits : List Signal) → Allows P bits ↔ NetAllows (u.words ++ z) bits
unfolding unfold_main net_words
alike P u e z bits =
    inv _ _ e λ M e_m e₁.
    inv _ _ e₁ λ i ei e₂.
    inv _ _ e₂ λ o eo e₃.
    inv _ _ e₃ λ l el e₄.
    inv _ _ e₄ λ t es e₅.
    subst (λ u. Allows P bits ↔ NetAllows (u.words ++ z) bits) (ok-inj e₅) (
      (λ a.
          let (β, et) = tied-main P M a.depth a.ports (nth-any 9 7 P.blocks P.main e_m) a.allowed in
          subst (NetAllows _) a.together (there P a.ports M i o l t β e_m et ei eo el es z a.depth a.allowed)),
      (λ n.
          let c = cut (generics []) (M.inputs ++ M.outputs) _ start o bits (declare-append (generics []) M.inputs M.outputs _ start ei eo)
          (omega (arith, declare-grows (generics []) M.outputs i.0 i.1 o eo, sym (carried-length n.wires 0 (i.1.next + (o.1.next - i.1.next))) ∙ ap length n.given)) in
          record {
            ports = c.ports;
            together = c.same;
            depth = 16;
            allowed = back P c.ports M i o l t c.names e_m c.tied ei eo el es z (subst (NetAllows _) (sym c.same) n);
          }),
    )
