-- A Reply in big-endian order without service contexts is its front, and its body behind it.
use Rattle.std.proofs.Common.{◌≡◌, ◌∙◌, ap, sym, refl, ℕ, ◌+◌, List, [], ◌++◌, length, append_assoc, Result, Ok, Err, OnOk}
use Rattle.std.specs.Prelude.{if◌then◌else◌}
use Rattle.std.specs.Result.{is_ok}
use Rattle.cdr_core.specs.Numbers.{AreOctets}
use Rattle.cdr_core.specs.Value.{Values, values}
use Rattle.cdr_core.specs.Writing.{octets_of_all}
use Rattle.cdr_core.specs.declared.order.Order.TheVariants.{Big}
use Rattle.giop_core.specs.Headers.{header_octets}
use Rattle.giop_core.specs.Written.{behind_header, header_for, octets_body, reply_fields}
use Rattle.giop_core.specs.declared.header.MessageKind.TheVariants.{Reply}
use Rattle.giop_core.specs.declared.header.Version.{Version}
use Rattle.giop_core.specs.declared.header.Version.TheVariants.{V10, V11, V12}
use Rattle.giop_core.proofs.OctetsBody.{body_length, body_read}
use Rattle.giop_core.proofs.Sizes.{replies-size}
use Rattle.ft_orb.proofs.Replies.{gap-none}
use Rattle.ft_orb.specs.Carrying.{reply_carrying}

-- the fields, which end at the place 24
abbrev fields : Version → (id status : ℕ) → List ℕ
fields version id status = octets_of_all Big (values (reply_fields version id status [])) 12

-- the fields and the body are what stands behind the header
behind : (version : Version) (id status : ℕ) (body : Values) → behind_header version Reply Big (reply_fields version id status []) body ≡ fields version id status ++ octets_of_all Big body 24
unfolding behind_header
behind V10 id status body = refl
behind V11 id status body = refl
behind V12 id status body = ap (λ (xs : List ℕ). fields V12 id status ++ xs) (gap-none (octets_of_all Big body 24))

-- a header of the size that they have, the fields and the body are the Reply
front-and-body : (version : Version) (id status size : ℕ) (body : Values) (old front : List ℕ) → size ≡ 12 + length (octets_of_all Big body 24) → front ≡ header_octets (header_for version Reply Big size) ++ fields version id status
    → (old ++ front) ++ octets_of_all Big body 24 ≡ old ++ reply_carrying [] version Big id status body
front-and-body version id status size body old front s f =
    let octets = octets_of_all Big body 24 in
    let after = behind_header version Reply Big (reply_fields version id status []) body in
    let header = header_octets (header_for version Reply Big size) in
    let whole : front ++ octets ≡ header ++ after =
    ap (λ (xs : List ℕ). xs ++ octets) f ∙ append_assoc header (fields version id status) octets ∙ ap (λ (xs : List ℕ). header ++ xs) (sym (behind version id status body)) in
    let sized : header ++ after ≡ reply_carrying [] version Big id status body =
    ap (λ (n : ℕ). header_octets (header_for version Reply Big n) ++ after) (s ∙ sym (replies-size version Big id status body).0) in
    append_assoc old front octets ∙ ap (λ (xs : List ℕ). old ++ xs) (whole ∙ sized)

-- so is what was put, where putting the body behind the front did not fail
pub front_put : {A E : Type 0} (version : Version) (id status size : ℕ) (body : Values) (old front mid new : List ℕ) (r : Result A E) → size ≡ 12 + length (octets_of_all Big body 24) → front ≡ header_octets (header_for version Reply Big size) ++ fields version id status
    → mid ≡ old ++ front → OnOk r (new ≡ mid ++ octets_of_all Big body 24) → OnOk r (new ≡ old ++ reply_carrying [] version Big id status body)
front_put version id status size body old front mid new (Ok x) s f m put = put ∙ ap (λ (xs : List ℕ). xs ++ octets_of_all Big body 24) m ∙ front-and-body version id status size body old front s f
front_put version id status size body old front mid new (Err e) s f m put = tt

-- .. and where the body comes as octets
pub raw_put : {A E : Type 0} (version : Version) (id status size : ℕ) (body old front mid new : List ℕ) (r : Result A E) → AreOctets body → size ≡ 12 + length body → front ≡ header_octets (header_for version Reply Big size) ++ fields version id status
    → mid ≡ old ++ front → new ≡ (if is_ok r then mid ++ body else mid) → OnOk r (new ≡ old ++ reply_carrying [] version Big id status (octets_body body))
raw_put {E = E} version id status size body old front mid new (Ok x) are s f m put =
    front_put {E = E} version id status size (octets_body body) old front mid new (Ok x) (s ∙ ap (λ (n : ℕ). 12 + n) (sym (body_length Big body 24))) f m (put ∙ ap (λ (xs : List ℕ). mid ++ xs) (sym (body_read Big body 24 are)))
raw_put version id status size body old front mid new (Err e) are s f m put = tt
