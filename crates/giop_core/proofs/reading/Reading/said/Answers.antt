use Rattle.std.proofs.Common.{ℕ, List, Ok, refl, sym, ap, ◌∙◌}
use Rattle.std.proofs.lemmas.List.{take_rest}
use Rattle.giop_core.specs.Content as content
use Rattle.giop_core.specs.declared.places.Parts.TheVariants as parts
use Rattle.giop_core.proofs.OfKind.{kind_by, says_by}
use Rattle.giop_core.proofs.reading.Reading.said.Goals as goal

pub returns-in-Request : goal.returns-in-Request
returns-in-Request c =
    let m = c.self.inside in
    let h = m.header.now in
    let kind = kind_by h.version h.kind h.order m.octets.now m.places.now.parts c.self.invariant (parts.Request c.in-Request.parts) c.in-Request.is in
    rw (← c.self.view_is) (kind, refl)

pub returns-in-Reply : goal.returns-in-Reply
returns-in-Reply c =
    let m = c.self.inside in
    let h = m.header.now in
    let kind = kind_by h.version h.kind h.order m.octets.now m.places.now.parts c.self.invariant (parts.Reply c.in-Reply.parts) c.in-Reply.is in
    rw (← c.self.view_is) (kind, refl)

pub returns-in-Cancel : goal.returns-in-Cancel
returns-in-Cancel c =
    let m = c.self.inside in
    let h = m.header.now in
    let kind = kind_by h.version h.kind h.order m.octets.now m.places.now.parts c.self.invariant (parts.Cancel c.in-Cancel.id) c.in-Cancel.is in
    rw (← c.self.view_is) (kind, says_by h.version h.kind h.order m.octets.now m.places.now.parts c.self.invariant (parts.Cancel c.in-Cancel.id) c.in-Cancel.is)

pub returns-in-LocateRequest : goal.returns-in-LocateRequest
returns-in-LocateRequest c =
    let m = c.self.inside in
    let h = m.header.now in
    let kind = kind_by h.version h.kind h.order m.octets.now m.places.now.parts c.self.invariant (parts.LocateRequest c.in-LocateRequest.id c.in-LocateRequest.target) c.in-LocateRequest.is in
    rw (← c.self.view_is) (kind, refl)

pub returns-in-LocateReply : goal.returns-in-LocateReply
returns-in-LocateReply c =
    let m = c.self.inside in
    let h = m.header.now in
    let kind = kind_by h.version h.kind h.order m.octets.now m.places.now.parts c.self.invariant (parts.LocateReply c.in-LocateReply.id c.in-LocateReply.status c.in-LocateReply.body) c.in-LocateReply.is in
    rw (← c.self.view_is) (kind, refl)

pub returns-in-Close : goal.returns-in-Close
returns-in-Close c =
    let m = c.self.inside in
    let h = m.header.now in
    let kind = kind_by h.version h.kind h.order m.octets.now m.places.now.parts c.self.invariant parts.Close c.in-Close.is in
    rw (← c.self.view_is) kind

pub returns-in-Error : goal.returns-in-Error
returns-in-Error c =
    let m = c.self.inside in
    let h = m.header.now in
    let kind = kind_by h.version h.kind h.order m.octets.now m.places.now.parts c.self.invariant parts.Error c.in-Error.is in
    rw (← c.self.view_is) kind

pub returns-in-Fragment : goal.returns-in-Fragment
returns-in-Fragment c =
    let m = c.self.inside in
    let h = m.header.now in
    let kind = kind_by h.version h.kind h.order m.octets.now m.places.now.parts c.self.invariant (parts.Fragment c.in-Fragment.id c.in-Fragment.start) c.in-Fragment.is in
    rw (← c.self.view_is) (
      kind,
      says_by h.version h.kind h.order m.octets.now m.places.now.parts c.self.invariant (parts.Fragment c.in-Fragment.id c.in-Fragment.start) c.in-Fragment.is
          ∙ ap (λ (ys : List ℕ). Ok (content.fragment c.in-Fragment.id ys)) (sym (take_rest m.octets.now c.in-Fragment.start)),
    )
