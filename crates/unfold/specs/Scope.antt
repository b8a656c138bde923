-- What a resolved call's arguments name, and how many they are. Assumes nothing.
use Rattle.std.specs.Prelude.{◌≡◌, refl, ℕ, suc, ◌<◌, List, [], ◌∷◌, ◌++◌, length}
use Rattle.std.proofs.Common.{ap}
use Rattle.rules.specs.Names.{Role}
use Rattle.rules.specs.Syntax.{Arg, whole, part}
use Rattle.rules.proofs.Laws.Scoped.{ArgOk, ArgsOk}
use Rattle.frames.specs.Args.{arg_name}
use Rattle.unfold.specs.Statements.{Named}

named-one : (E : List Role) (w : Role) (a : Arg ℕ) → ArgOk E w a → arg_name a < length E
unfolding ArgOk arg_name
named-one E w (whole k) h = h.0
named-one E w (part k e) h = h

pub named-of : (E ws : List Role) (args : List (Arg ℕ)) → ArgsOk E ws args → Named (length E) args
unfolding ArgsOk Named
named-of E [] [] h = tt
named-of E [] (a ∷ args) h = absurd h
named-of E (w ∷ ws) [] h = absurd h
named-of E (w ∷ ws) (a ∷ args) h = (named-one E w a h.0, named-of E ws args h.1)

pub many-of : (E ws : List Role) (args : List (Arg ℕ)) → ArgsOk E ws args → length ws ≡ length args
unfolding ArgsOk
many-of E [] [] h = refl
many-of E [] (a ∷ args) h = absurd h
many-of E (w ∷ ws) [] h = absurd h
many-of E (w ∷ ws) (a ∷ args) h = ap suc (many-of E ws args h.1)

pub named-both : (n : ℕ) (ins outs : List (Arg ℕ)) → Named n (ins ++ outs) → Named n ins × Named n outs
unfolding Named
named-both n [] outs h = (tt, h)
named-both n (a ∷ ins) outs h = let (x, y) = named-both n ins outs h.1 in ((h.0, x), y)
