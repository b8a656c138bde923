-- A text is read no further than tells that it is too long, and that is enough. Assumes nothing.
use Rattle.std.specs.Prelude.{◌≡◌, List, ℕ, ◌≤◌, ◌<◌, length, take}
use Rattle.std.proofs.Common.{sym, ap, ◌∙◌, arith, take_all, length-take-le}
use Rattle.std.proofs.Math.Decide.{dec_lt}
use Rattle.std.proofs.lemmas.Bool.{lt-leb}
use Rattle.rules.specs.Text.{pick}
use Rattle.rules.specs.Outcome.{refuse, ◌>>=◌, need}
use Rattle.rules.specs.Flatten.{flattened, answer, flatten}
use Rattle.pebble.specs.Printed.{shown, printed, refused_text}

too_long : (text : List ℕ) → 16384 < length text → flattened text 16384 5124 ≡ refuse 2 0
unfolding flattened ◌>>=◌ need
too_long text h = rw (lt-leb (length text) 16384 h)

-- "a text longer than 16,384 bytes is refused", "however long it is"
pub long-printed : (text : List ℕ) → 16384 < length text → printed text ≡ refused_text 2 0
unfolding printed shown flatten answer pick
long-printed text h = ap (λ o. shown (answer 5124 o)) (too_long text h)

-- what is printed for the first 16,385 bytes is what is printed for all
pub enough : (text : List ℕ) → printed (take 16385 text) ≡ printed text
enough text = go (dec_lt 16384 (length text))
  where
    go : Dec (16384 < length text) → printed (take 16385 text) ≡ printed text
    go (no h) = let l : length text ≤ 16385 = omega arith in ap printed (take_all 16385 text l)
    go (yes h) =
        let l : 16385 ≤ length text = omega arith in
        let e : length (take 16385 text) ≡ 16385 = length-take-le 16385 text l in
        long-printed (take 16385 text) (omega arith) ∙ sym (long-printed text h)
