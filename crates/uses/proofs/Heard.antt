-- What a server hears, from one call to the next.
use Rattle.std.proofs.Common.{◌≡◌, ℕ, ◌+◌, List, [], ◌++◌, cond, count_by, drop, take, refl, sym, ap, subst, ◌∙◌}
use Rattle.std.proofs.lemmas.List.Sums.{sum_by-append}
use Rattle.giop_frames.specs.declared.limits.Limits.{Limits}
use Rattle.giop_frames.specs.Frames.{split}
use Rattle.giop_frames.specs.Streams.{fault_of, messages_of}
use Rattle.giop_link.specs.Hearing.{Incoming, heard, heard_as}
use Rattle.giop_link.specs.Linking.{Linked, LinkStands}
use Rattle.giop_link.specs.Listening.{heard_in}
use Rattle.uses.specs.Hearing.{is_request}
use Rattle.giop_frames.proofs.Counted.{taken_more}

-- where nothing has come there is no request
pub none_asked : (limits : Limits) → count_by is_request (heard limits []) ≡ 0
unfolding heard_as fault_of messages_of split
none_asked limits = refl

-- what feeding the octets from k on did
module _ (limits : Limits) (octets : List ℕ) (k n : ℕ) (b : Linked)
    (stands : LinkStands limits b (take k octets ++ take n (drop k octets)))
    (told : heard limits (take k octets ++ take n (drop k octets)) ≡ heard limits (take k octets) ++ heard_in b.inbound) where
  pub link_stands_on : LinkStands limits b (take (k + n) octets)
  link_stands_on = subst (LinkStands limits b) (taken_more k n octets) stands

  pub asked_on : count_by is_request (heard limits (take (k + n) octets)) ≡ count_by is_request (heard limits (take k octets)) + count_by is_request (heard_in b.inbound)
  asked_on =
      ap (λ xs. count_by is_request (heard limits xs)) (sym (taken_more k n octets)) ∙ ap (count_by is_request) told
      ∙ sum_by-append (λ (x : Incoming). cond (is_request x) 1 0) (heard limits (take k octets)) (heard_in b.inbound)
