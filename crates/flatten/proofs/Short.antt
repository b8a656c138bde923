-- A lent netlist that is too short. Assumes nothing.
use Rattle.std.proofs.Common.{◌≡◌, ℕ, List, length, ◌<◌, Err}
use Rattle.rules.specs.Text.{zeros}
use Rattle.rules.specs.Flatten.{flatten}
use Rattle.rules.specs.declared.Reason.TheVariants.{ShortBuffer}
use Rattle.flatten.specs.Promise.{told, seen}
use Rattle.flatten.specs.Ways.{refused-so, net-short}

pub short_netlist : (text net : List ℕ) (work : ℕ) → net ≡ zeros (length net) → length net < 5124
    → seen (told (Err (record { reason = ShortBuffer; place = 0 }))) net ≡ flatten text work (length net)
short_netlist text net work z h = refused-so (record { reason = ShortBuffer; place = 0 }) text net work _ z (net-short _ _ _ h)
