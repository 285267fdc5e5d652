use Rattle.std.proofs.Common.{Ok, Err, ◌∙◌, ap, inl, inr, refl, sym}
use Rattle.ft_orb.specs.declared.error.ConnectError.TheVariants.{NotNew}
use Rattle.lemonrudder.proofs.Asked.{opened-owed, opened-undone}
use Rattle.lemonrudder.proofs.Idling.{not_both, not_so}
use Rattle.lemonrudder.proofs.Noting.{undone-noted}
use Rattle.lemonrudder.proofs.Written.{from_err}
use Rattle.lemonrudder.proofs.serving.Serving.connect.Goals as goal

pub returns-then-is_asking : goal.returns-then-is_asking
returns-then-is_asking c = (λ some. (refl, refl), λ idle. absurd (not_both _ (c.is_asking.ensures.0 c.if-is_asking.true) idle))

pub returns-then-not-is_new : goal.returns-then-not-is_new
returns-then-not-is_new c = (
  λ some. absurd (not_so c.if-is_asking.false (c.is_asking.ensures.1 some)),
  λ idle. inr (
    Err NotNew,
    refl,
    idle,
    λ q. (refl, refl),
    refl,
    refl,
    refl,
    (refl, λ q. (refl, refl), refl),
    λ x held calls past waiting h. (c.is_new.ensures.late x held calls past waiting h).1 c.if-not-is_new.true,
    λ q. (refl, refl),
    λ q. refl,
  ),
)

pub returns-in_err-open : goal.returns-in_err-open
returns-in_err-open c = (
  λ some. absurd (not_so c.if-is_asking.false (c.is_asking.ensures.1 some)),
  λ idle. inl (
    from_err _ _ c.from_residual.ensures.1 ∙ ap Err c.in_err-open.ensures.why.0,
    c.in_err-open.ensures.why.1,
    λ x held calls past waiting h. sym (c.is_new.ensures.late x held calls past waiting h).0 ∙ c.if-not-is_new.false,
    (refl, refl, (c.in_err-open.ensures.err, refl), c.open.ensures.noted),
  ),
)

pub returns-in-Ok : goal.returns-in-Ok
returns-in-Ok c =
    let s = c.args.self.now in (
      λ some. absurd (not_so c.if-is_asking.false (c.is_asking.ensures.1 some)),
      λ idle. inr (
        Ok (tt {0}),
        refl,
        c.connect.ensures.idle,
        (c.in_ok-open.ensures.there, opened-owed c.args.connection s.connections c.open.new.self c.open.ensures.owed c.open.ensures.stays, c.open.ensures.others),
        refl,
        c.connect.ensures.catalogue,
        refl,
        (c.connect.ensures.asks, c.connect.ensures.parked, c.connect.ensures.counts),
        c.in-Ok.ensures.late,
        c.open.ensures.noted,
        c.connect.ensures.ended,
      ),
    )

pub returns-in-Err : goal.returns-in-Err
returns-in-Err c =
    let s = c.args.self.now in (
      λ some. absurd (not_so c.if-is_asking.false (c.is_asking.ensures.1 some)),
      λ idle. inr (
        Err c.in-Err.error,
        ap Err c.from.ensures,
        c.connect.ensures.idle,
        opened-undone c.args.connection c.has-was.result s.connections c.open.new.self c.undo.new.self c.has-was.ensures c.open.ensures.others c.open.ensures.stays c.undo.ensures.others c.undo.ensures.gone c.undo.ensures.stays,
        refl,
        c.connect.ensures.catalogue,
        refl,
        (c.connect.ensures.asks, c.connect.ensures.parked, c.connect.ensures.counts),
        c.in-Err.ensures.late,
        undone-noted c.args.connection c.has-was.result s.connections c.open.new.self c.undo.new.self c.has-was.ensures c.open.ensures.noted c.undo.ensures.noted c.undo.ensures.gone c.undo.ensures.noted_stays,
        c.connect.ensures.ended,
      ),
    )
