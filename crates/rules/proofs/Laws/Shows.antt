-- What a run shows, in terms of what it knows. Assumes nothing.
use Rattle.std.specs.Prelude.{◌≡◌, ℕ, ◌+◌, ◌<◌, List, ◌++◌, map, length, get_or}
use Rattle.std.proofs.Common.{sym, ap, ◌∙◌, subst, arith}
use Rattle.rules.specs.Netlist.{inputs, outputs}
use Rattle.rules.specs.Meaning.{Signal, dark, carried, NetAllows}
use Rattle.rules.specs.Run.{Known, to_byte, from_byte, Shown, settled, unsettled}
use Rattle.rules.proofs.Laws.Bytes.{byte-inj, byte-not-2}
use Rattle.rules.proofs.Laws.Carried.{carried-at, carried-length, carried-append, append_inj}
use Rattle.rules.proofs.Laws.Runs.{sound}

-- a wire that is shown as a bit is known to have it
pub shown-bit : {net ins : List ℕ} {i x : ℕ} (b : Signal) → Shown net ins i x → x ≡ to_byte b → Known net (map from_byte ins) i b
shown-bit {net} {ins} {i} b (settled {b = c} k) e = subst (λ b. Known net (map from_byte ins) i b) (byte-inj c b e) k
shown-bit b (unsettled n) e = absurd (byte-not-2 b (sym e))

pub shown-settled : {net ins : List ℕ} {i x : ℕ} → Shown net ins i x → x < 2 → (b : Signal) × Known net (map from_byte ins) i b
shown-settled (settled {b} k) h = (b, k)
shown-settled (unsettled n) h = absurd (omega arith)

-- what is known of a port holds in everything that the netlist allows with these inputs
pub port-right : (net : List ℕ) (ins out : List Signal) → length ins ≡ inputs net → NetAllows net (ins ++ out) → (i : ℕ) (b : Signal) → i < inputs net + outputs net
    → Known net ins i b → get_or (ins ++ out) i dark ≡ b
port-right net ins out len n i b h k =
    let w = n.wires in
    let q = sym (carried-append w 0 (inputs net) (outputs net)) ∙ n.given in
    let (l, _) = append_inj (carried w 0 (inputs net)) ins _ out (carried-length w 0 (inputs net) ∙ sym len) q in
    let z : i ≡ 0 + i = omega arith in
    ap (λ bs. get_or bs i dark) (sym n.given) ∙ carried-at w 0 (inputs net + outputs net) i h ∙ ap w (sym z) ∙ sound net ins w l n.hold k
