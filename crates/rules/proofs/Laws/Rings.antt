-- The two netlists of P8 and P9: a mux over three inputs, and a wire fed back through `not`. Assumes nothing.
use Rattle.std.specs.Prelude.{◌≡◌, refl, ℕ, zero, suc, ◌<◌, Bool, true, false, not, List, [], ◌∷◌, map, get_or}
use Rattle.std.proofs.Common.{arith}
use Rattle.rules.specs.Primitives.{primitive}
use Rattle.rules.specs.Meaning.{Signal, dark, makes, NetAllows}
use Rattle.rules.proofs.Laws.Bytes.{from-to}
use Rattle.rules.specs.Run.{Known, given, made, AllKnown, none, more, to_byte, from_byte, Shown, settled, unsettled}

-- P9: one wire, fed back through not
abbrev pub ring : List ℕ
ring = 0 ∷ 0 ∷ 1 ∷ 1 ∷ 1 ∷ 0 ∷ 65535 ∷ 65535 ∷ 0 ∷ []

mutual
  unfolding primitive

  never : {i : ℕ} {b : Signal} → Known ring [] i b → ⊥
  never (given h e) = omega arith
  never (made zero h o k e) = never-all k 0 [] refl
  never (made (suc j) h o k e) = omega arith

  never-all : {is : List ℕ} {bs : List Signal} → AllKnown ring [] is bs → (i : ℕ) (r : List ℕ) → is ≡ i ∷ r → ⊥
  never-all none i r e = let z : ◌≡◌ {A = ℕ} 0 1 = cc in omega arith
  never-all (more k ks) i r e = never k

pub ring-stays : Shown ring [] 0 2
ring-stays = unsettled (λ b k. never k)

pub ring-allows-nothing : (bits : List Signal) → NetAllows ring bits → ⊥
unfolding Signal dark makes primitive
ring-allows-nothing bits n = go (n.wires 0) (n.hold 0 (omega arith))
  where
    go : (b : Bool) → not b ≡ b → ⊥
    go true e = let z : ◌≡◌ {A = ℕ} 0 1 = cc in omega arith
    go false e = let z : ◌≡◌ {A = ℕ} 0 1 = cc in omega arith

-- P8: a mux over three inputs
abbrev pub choice : List ℕ
choice = 3 ∷ 1 ∷ 4 ∷ 1 ∷ 7 ∷ 0 ∷ 1 ∷ 2 ∷ 3 ∷ []

mux-known : (c : ℕ) (u v : Signal) → Known choice (map from_byte (c ∷ to_byte u ∷ to_byte v ∷ [])) 3 (makes 7 (from_byte c ∷ u ∷ v ∷ []))
unfolding primitive
mux-known c u v =
    let in-at : (k : ℕ) (b : Signal) → k < 3 → get_or (from_byte c ∷ from_byte (to_byte u) ∷ from_byte (to_byte v) ∷ []) k dark ≡ b → Known choice (from_byte c ∷ from_byte (to_byte u) ∷ from_byte (to_byte v) ∷ []) k b = λ k b h e. given h e in
    made 0 (omega arith) refl (more (in-at 0 (from_byte c) (omega arith) refl) (more (in-at 1 u (omega arith) (from-to u)) (more (in-at 2 v (omega arith) (from-to v)) none))) refl

-- u if c is 0, else v
pub chosen : (u v : Signal) → Shown choice (0 ∷ to_byte u ∷ to_byte v ∷ []) 3 (to_byte u) × Shown choice (1 ∷ to_byte u ∷ to_byte v ∷ []) 3 (to_byte v)
unfolding Signal makes primitive from_byte
chosen u v = (settled (mux-known 0 u v), settled (mux-known 1 u v))
