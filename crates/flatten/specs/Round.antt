-- The round trip of the code: `flatten` answered 0, `write` wrote its netlist, and `read` read the text back. Assumes nothing.
use Rattle.std.specs.Prelude.{◌≡◌, ℕ, ◌-◌, ◌≤◌, List, ◌++◌, length, take}
use Rattle.std.proofs.Common.{sym, ap, ◌∙◌}
use Rattle.rules.specs.Text.{zeros}
use Rattle.rules.specs.Netlist.{records}
use Rattle.rules.specs.Flat.{flat_text}
use Rattle.netlist.specs.Answers.{Told, done}
use Rattle.write.specs.Wrote.{Wrote, wrote, wrote_one}
use Rattle.read.specs.WasRead.{WasRead}
use Rattle.read.specs.Round.{written, read_back}
use Rattle.flatten.specs.Promise.{Flattened, Flattens}
use Rattle.flatten.specs.Code.{well-formed, held}

-- `flatten` answered 0, and `write` told t and left `flat` in a text lent with `len` bytes, enough of them
module _ {text work net : List ℕ} {r : Flattened} {table words : List ℕ} (f : Flattens text work net r table words) (success : r.number ≡ 0)
    {len : ℕ} {t : Told} {flat : List ℕ} (w : Wrote words len t flat) (enough : 65536 ≤ len) where
  -- then it is written: the flat text of its netlist, and zeros
  pub is-written : (t ≡ done (length (flat_text words))) × (flat ≡ flat_text words ++ zeros (len - length (flat_text words)))
  is-written = wrote_one w (wrote enough (well-formed f success))

  -- so the bytes that it says are written are that text
  pub the-text : take t.length flat ≡ flat_text words
  the-text = (written (well-formed f success) enough w).1

  -- and `read` on that text told t' and left `again` in a netlist lent with `len'` words, enough of them
  module _ {len' : ℕ} {t' : Told} {again : List ℕ} (g : WasRead (take t.length flat) len' t' again) (room : 5124 ≤ len') where
    -- then it is read: the same records, and zeros
    pub is_read : (t' ≡ done 0) × (again ≡ records words ++ zeros (len' - length (records words)))
    is_read = let (a, b, c) = read_back (well-formed f success) enough room w g in (a, b)

    -- word for word the same netlist, if as many words were lent
    pub same-netlist : len' ≡ length net → again ≡ words
    same-netlist e = is_read.1 ∙ ap (λ n. records words ++ zeros (n - length (records words))) e ∙ sym (held f success)
