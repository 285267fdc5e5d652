use Rattle.std.proofs.Common.{◌∙◌, List, ℕ, Bool, true, false, Ok, Err, sym, subst, arith}
use Rattle.std.proofs.lemmas.Result.{err_from_is_err_and}
use Rattle.giop_proxy.specs.PlacingPrivate.{fields_for, kind_of, Begins}
use Rattle.giop_proxy.proofs.Appended.{back-again, begun-second, fields_longer, first-fails, second-fails}
use Rattle.giop_proxy.proofs.placed.begin_placed.Goals as goal

pub returns-in_err-begin : goal.returns-in_err-begin
returns-in_err-begin c =
    let a = c.args in
    let f = a.fields.now in
    let p = err_from_is_err_and c.from_residual.result c.from_residual.ensures.1 in
    rw (p.1, p.2) (first-fails a.version (kind_of f) a.order a.place a.body.now (fields_for a.version f a.place a.body.now) (fields_longer a.version a.order f a.place a.body.now) c.in_err-begin.field-0.0 a.out.now.items c.begin.new.out.items c.in_err-begin.ensures.begins)

pub returns-in_err-begin-2 : goal.returns-in_err-begin-2
returns-in_err-begin-2 c =
    let a = c.args in
    let f = a.fields.now in
    let old = a.out.now.items in
    let forms = fields_for a.version f a.place a.body.now in
    let e = c.in_err-begin-2.field-0.0 in
    let new = c.begin-2.new.out.items in
    let p = err_from_is_err_and c.from_residual-in_err-begin-2.result c.from_residual-in_err-begin-2.ensures.1 in
    let back = back-again a.order (forms false) c.len-start.result old c.begin.new.out.items c.truncate.new.self.items (omega (arith, c.len-start.ensures, a.out.now.ok.0)) c.in_ok-begin.ensures.begins c.truncate.ensures.items in
    rw (p.1, p.2) (second-fails a.version (kind_of f) a.order a.place a.body.now forms (sym c.in_ok-begin.ensures.follows ∙ c.if-branch.false) e old new
    (subst (λ (xs : List ℕ). Begins {A = Bool} a.order (forms true) (Err e) xs new) back c.in_err-begin-2.ensures.begins))

pub returns-then-branch-2 : goal.returns-then-branch-2
returns-then-branch-2 c =
    let a = c.args in
    let f = a.fields.now in
    let old = a.out.now.items in
    let forms = fields_for a.version f a.place a.body.now in
    let new = c.begin-2.new.out.items in
    let back = back-again a.order (forms false) c.len-start.result old c.begin.new.out.items c.truncate.new.self.items (omega (arith, c.len-start.ensures, a.out.now.ok.0)) c.in_ok-begin.ensures.begins c.truncate.ensures.items in
    begun-second a.version (kind_of f) a.order a.place a.body.now forms old new (sym c.in_ok-begin.ensures.follows ∙ c.if-branch.false) (sym c.in_ok-begin-2.ensures.follows ∙ c.if-branch-2.true)
    (subst (λ (xs : List ℕ). Begins {A = Bool} a.order (forms true) (Ok true) xs new) back c.in_ok-begin-2.ensures.begins)
