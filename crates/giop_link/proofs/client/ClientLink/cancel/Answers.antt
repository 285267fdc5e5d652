use Rattle.std.proofs.Common.{List, None, refl, sym, ap, ◌∙◌, rules}
use Rattle.std.specs.List.{list_any, position}
use Rattle.giop_link.specs.declared.awaited.Outstanding.{Outstanding}
use Rattle.giop_link.specs.ClientLinking.{Terms}
use Rattle.giop_link.specs.Ids.{is_of}
use Rattle.giop_link.proofs.Taking.{gives-up, is-awaited, on-err, stands-without}
use Rattle.giop_link.proofs.Waiting.{absent, found}
use Rattle.giop_link.proofs.client.ClientLink.cancel.Goals as goal

pub returns-in_default-clause-ok : goal.returns-in_default-clause-ok
returns-in_default-clause-ok c =
    let l = c.self.inside in
    let own : Terms = record { limits = l.listener.limits; version = l.version; most = l.most } in
    let test = is_of c.args.id None in
    let view = is-awaited own l.given l.outstanding.items l.delivers l.listener c.args.self.now c.self.view_is in
    let none = absent test l.outstanding.items (ap (λ (ws : List Outstanding). position test ws) (sym c.as_slice.ensures.value) ∙ sym c.place_of.ensures ∙ c.in_default.is) in (
      sym none.0 ∙ ap (λ (ws : List Outstanding). list_any test ws) view,
      sym c.self.view_is ∙ gives-up own l.given l.outstanding.items l.outstanding.items l.delivers l.listener c.args.self.now c.args.id c.self.view_is (sym none.1),
    )

pub returns-in_default-clause-stands : goal.returns-in_default-clause-stands
returns-in_default-clause-stands c = λ terms x st.
    let l = c.self.inside in
    let own : Terms = record { limits = l.listener.limits; version = l.version; most = l.most } in
    let test = is_of c.args.id None in
    let none = absent test l.outstanding.items (ap (λ (ws : List Outstanding). position test ws) (sym c.as_slice.ensures.value) ∙ sym c.place_of.ensures ∙ c.in_default.is) in
    stands-without terms x c.args.self.now c.args.self.now c.args.id
    (sym c.self.view_is ∙ gives-up own l.given l.outstanding.items l.outstanding.items l.delivers l.listener c.args.self.now c.args.id c.self.view_is (sym none.1)) st

pub returns-in_err-write_cancel-clause-err : goal.returns-in_err-write_cancel-clause-err
returns-in_err-write_cancel-clause-err c =
    let l = c.self.inside in
    let own : Terms = record { limits = l.listener.limits; version = l.version; most = l.most } in
    let test = is_of c.args.id None in
    let view = is-awaited own l.given l.outstanding.items l.delivers l.listener c.args.self.now c.self.view_is in
    let one = found test l.outstanding.items c.in-Some.place (ap (λ (ws : List Outstanding). position test ws) (sym c.as_slice.ensures.value) ∙ sym c.place_of.ensures ∙ c.in-Some.is) in
    on-err c.from_residual.result _ (ap (λ (ws : List Outstanding). list_any test ws) (sym view) ∙ one.0, refl, c.in_err-write_cancel.ensures)

pub returns-clause-ok : goal.returns-clause-ok
returns-clause-ok c =
    let l = c.self.inside in
    let own : Terms = record { limits = l.listener.limits; version = l.version; most = l.most } in
    let test = is_of c.args.id None in
    let view = is-awaited own l.given l.outstanding.items l.delivers l.listener c.args.self.now c.self.view_is in
    let one = found test l.outstanding.items c.in-Some.place (ap (λ (ws : List Outstanding). position test ws) (sym c.as_slice.ensures.value) ∙ sym c.place_of.ensures ∙ c.in-Some.is) in (
      sym one.0 ∙ ap (λ (ws : List Outstanding). list_any test ws) view,
      gives-up own l.given l.outstanding.items c.remove.new.self.items l.delivers l.listener c.args.self.now c.args.id c.self.view_is (c.remove.ensures.items ∙ one.1),
    )

pub returns-clause-stands : goal.returns-clause-stands
returns-clause-stands c = λ terms x st.
    let l = c.self.inside in
    let own : Terms = record { limits = l.listener.limits; version = l.version; most = l.most } in
    let test = is_of c.args.id None in
    let one = found test l.outstanding.items c.in-Some.place (ap (λ (ws : List Outstanding). position test ws) (sym c.as_slice.ensures.value) ∙ sym c.place_of.ensures ∙ c.in-Some.is) in
    stands-without terms x c.args.self.now _ c.args.id
    (gives-up own l.given l.outstanding.items c.remove.new.self.items l.delivers l.listener c.args.self.now c.args.id c.self.view_is (c.remove.ensures.items ∙ one.1)) st

pub returns-clause-out : goal.returns-clause-out
returns-clause-out c = search rules
