use Rattle.std.proofs.Common.{List, None, sym, ap, ◌∙◌}
use Rattle.std.specs.List.{position}
use Rattle.giop_link.specs.declared.awaited.Outstanding.{Outstanding}
use Rattle.giop_link.specs.ClientLinking.{Terms}
use Rattle.giop_link.specs.Ids.{is_of}
use Rattle.giop_link.proofs.Taking.{gives-up, stands-without}
use Rattle.giop_link.proofs.Waiting.{absent, found}
use Rattle.giop_link.proofs.client.ClientLink.abandon.Goals as goal

pub returns-in-Some-clause-ids : goal.returns-in-Some-clause-ids
returns-in-Some-clause-ids c =
    let l = c.self.inside in
    let own : Terms = record { limits = l.listener.limits; version = l.version; most = l.most } in
    let test = is_of c.args.id None in
    let one = found test l.outstanding.items c.in-Some.place (ap (λ (ws : List Outstanding). position test ws) (sym c.as_slice.ensures.value) ∙ sym c.place_of.ensures ∙ c.in-Some.is) in
    gives-up own l.given l.outstanding.items c.remove.new.self.items l.delivers l.listener c.args.self.now c.args.id c.self.view_is (c.remove.ensures.items ∙ one.1)

pub returns-in-Some-clause-stands : goal.returns-in-Some-clause-stands
returns-in-Some-clause-stands c = λ terms x st.
    let l = c.self.inside in
    let own : Terms = record { limits = l.listener.limits; version = l.version; most = l.most } in
    let test = is_of c.args.id None in
    let one = found test l.outstanding.items c.in-Some.place (ap (λ (ws : List Outstanding). position test ws) (sym c.as_slice.ensures.value) ∙ sym c.place_of.ensures ∙ c.in-Some.is) in
    stands-without terms x c.args.self.now _ c.args.id
    (gives-up own l.given l.outstanding.items c.remove.new.self.items l.delivers l.listener c.args.self.now c.args.id c.self.view_is (c.remove.ensures.items ∙ one.1)) st

pub returns-in_default-clause-ids : goal.returns-in_default-clause-ids
returns-in_default-clause-ids c =
    let l = c.self.inside in
    let own : Terms = record { limits = l.listener.limits; version = l.version; most = l.most } in
    let test = is_of c.args.id None in
    let none = absent test l.outstanding.items (ap (λ (ws : List Outstanding). position test ws) (sym c.as_slice.ensures.value) ∙ sym c.place_of.ensures ∙ c.in_default.is) in
    sym c.self.view_is ∙ gives-up own l.given l.outstanding.items l.outstanding.items l.delivers l.listener c.args.self.now c.args.id c.self.view_is (sym none.1)

pub returns-in_default-clause-stands : goal.returns-in_default-clause-stands
returns-in_default-clause-stands c = λ terms x st.
    let l = c.self.inside in
    let own : Terms = record { limits = l.listener.limits; version = l.version; most = l.most } in
    let test = is_of c.args.id None in
    let none = absent test l.outstanding.items (ap (λ (ws : List Outstanding). position test ws) (sym c.as_slice.ensures.value) ∙ sym c.place_of.ensures ∙ c.in_default.is) in
    stands-without terms x c.args.self.now c.args.self.now c.args.id
    (sym c.self.view_is ∙ gives-up own l.given l.outstanding.items l.outstanding.items l.delivers l.listener c.args.self.now c.args.id c.self.view_is (sym none.1)) st
