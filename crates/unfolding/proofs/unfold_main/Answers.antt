use Rattle.std.proofs.Common.{◌≡◌, refl, arith, rules, Err}
use Rattle.unfolding.specs.Nets.{main-of, main-written, main-here, main-not, main_body}
use Rattle.unfolding.proofs.unfold_main.Goals as goal

pub places-requires : goal.places-requires
places-requires c = let p = c.requires.0 in (record { text = p.text; program = p.program; held = p.held }, search rules)

pub begin-requires : goal.begin-requires
begin-requires c =
    let p = c.requires.0 in
    let s = c.places.ensures.by_index_2 _ _ p.held in
    main-written s (main-of s) p.is refl

pub returns-in_err-begun-clause-by_index : goal.returns-in_err-begun-clause-by_index
returns-in_err-begun-clause-by_index c t P h is =
    let s = c.places.ensures.by_index_2 _ _ h in
    let m = main-of s in
    let q : c.from_residual.result ≡ Err c.in_err-begun.field-0.0 = grind arith in
    rw q (main-not s m is refl _ c.in_err-begun.was (c.begin.ensures _ (main-here s m is refl)) _ _)

pub unfold_body-requires-clause-ready : goal.unfold_body-requires-clause-ready
unfold_body-requires-clause-ready c =
    let p = c.requires.0 in
    let s = c.places.ensures.by_index_2 _ _ p.held in
    let m = main-of s in
    record { text = _; program = _; body = main_body s m p.is refl _ c.in_ok-begun.was (c.begin.ensures _ (main-here s m p.is refl)) c.requires.1; room = c.requires.2 }

pub returns-clause-by_index : goal.returns-clause-by_index
returns-clause-by_index c t P h is =
    let s = c.places.ensures.by_index_2 _ _ h in
    let m = main-of s in
    c.unfold_body.ensures.by_index _ P (main_body s m is refl _ c.in_ok-begun.was (c.begin.ensures _ (main-here s m is refl)) c.requires.1)
