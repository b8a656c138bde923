-- What the reserved words have in common. Assumes nothing.
use Rattle.std.specs.Prelude.{ℕ, Bool, ◌&&◌, List, length, get_or, ltb}
use Rattle.std.specs.Char.{is_ascii_uppercase}

-- two letters or more, of which the first is a capital
unfoldable pub capital : List ℕ → Bool
capital w = ltb 1 (length w) && is_ascii_uppercase (get_or w 0 0)
