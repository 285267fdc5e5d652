use Rattle.std.proofs.Common.{◌≡◌, ◌∙◌, ◌+◌, ◌∷◌, ◌++◌, [], inl, inr, ap, subst, sym, take, arith}
use Rattle.std.proofs.lemmas.List.{take_all, take_more}
use Rattle.lemonrudder.proofs.Identifying.{HaveRead, no_items, read_no_ids, read_nul, read_octet, some_items}
use Rattle.lemonrudder.proofs.cataloguing.ids_of.Goals as goal
use Rattle.lemonrudder.proofs.cataloguing.ids_of.Goals.{then-is_empty-via-then-is_empty, then-is_empty-via-else-is_empty+then-not-is_empty, then-octet-eq0+in_ok-push, else-octet-eq0+in_ok-push-2}

pub loop-octet-preserved : goal.loop-octet-preserved
loop-octet-preserved c =
    let octets = c.args.octets.now in
    let k = c.loop-octet.octet-index in
    let ids = c.loop-octet.ids in
    let id = c.loop-octet.id in
    let more = take_more octets k 0 (omega arith) in
    elim c.if-octet-eq0.branch [
      | then-octet-eq0+in_ok-push w ↦ read_nul (take k octets) (take (k + 1) octets) ids.items c.if-octet-eq0.ids.items id c.if-octet-eq0.id.items _ c.loop-octet.invariant more w.if-octet-eq0.true
          (ap (λ v. v.items) w.ids-is ∙ w.in_ok-push.ensures.items ∙ ap (λ v. ids.items ++ v ∷ []) w.replace.ensures.value)
          (ap (λ v. v.items) w.id-is ∙ ap (λ v. v.items) w.replace.ensures.after ∙ w.new.ensures.items)
      | else-octet-eq0+in_ok-push-2 w ↦ read_octet (take k octets) (take (k + 1) octets) c.if-octet-eq0.ids.items id.items c.if-octet-eq0.id.items _
          (subst (λ v. HaveRead (take k octets) v id.items) (sym (ap (λ v. v.items) w.ids-is)) c.loop-octet.invariant) more w.if-octet-eq0.false
          (ap (λ v. v.items) w.id-is ∙ w.in_ok-push-2.ensures.items)
    ]

pub returns-then-is_empty : goal.returns-then-is_empty
returns-then-is_empty c =
    let octets = c.args.octets.now in
    let ids = c.loop-octet.ids in
    let id = c.loop-octet.id in
    let whole : take c.loop-octet.octet-index octets ≡ octets = take_all c.loop-octet.octet-index octets (omega arith) in
    let read : HaveRead octets ids.items id.items = subst (λ xs. HaveRead xs ids.items id.items) whole c.loop-octet.invariant in
    elim c.then-is_empty.branch [
      | then-is_empty-via-then-is_empty w ↦ read_no_ids octets ids.items id.items read (inl (no_items ids c.is_empty.result c.is_empty.ensures w.if-is_empty.true))
      | then-is_empty-via-else-is_empty+then-not-is_empty w ↦ read_no_ids octets ids.items id.items read (inr (some_items id w.is_empty-else-is_empty.result w.is_empty-else-is_empty.ensures w.if-not-is_empty.true))
    ]
