-- What was read fits its row, and meets what the writers ask.
use Rattle.std.proofs.Common.{◌≡◌, ◌≢◌, ℕ, zero, suc, ◌+◌, ◌<◌, ◌^◌, ℤ, pos, Bool, true, false, cond, Decides, List, [], ◌∷◌, ◌++◌, length, refl, sym, ap, subst, ◌∙◌, arith}
use Rattle.std.proofs.lemmas.Bool.Decides.{Decides-int_eq}
use Rattle.std.proofs.lemmas.Int.{ints}
use Rattle.std.specs.Ordering.{int_eq}
use Rattle.cdr_core.specs.declared.order.Order.{Order}
use Rattle.cdr_core.specs.Fitting.{AllFit, Fits, FitsChosen, IsValid}
use Rattle.cdr_core.specs.Form as form
use Rattle.cdr_core.specs.Form.{Form}
use Rattle.cdr_core.specs.Laws.{ReadIsSpelled, SpelledFits, SpelledIsRead, WrittenIsSpelled}
use Rattle.cdr_core.specs.Numbers.{AreOctets}
use Rattle.cdr_core.specs.Parts.{raw, text, ulong}
use Rattle.cdr_core.specs.Spelling.{Chosen, IsClean}
use Rattle.cdr_core.specs.Value as value
use Rattle.cdr_core.specs.Value.{Value, Values}
use Rattle.ior_core.specs.Grammar.{reference, tagged}
use Rattle.giop_core.specs.declared.header.MessageKind.{MessageKind}
use Rattle.giop_core.specs.declared.header.MessageKind.TheVariants as kind
use Rattle.giop_core.specs.declared.header.Version.{Version}
use Rattle.giop_core.specs.declared.header.Version.TheVariants.{V10, V11, V12}
use Rattle.giop_core.specs.Content as content
use Rattle.giop_core.specs.Content.{addressed, addressed_as, all_tagged, content, content_octets, items_of, member, natural, nth, parts, tagged_of, wish_of, Addressed, Content, Rest}
use Rattle.giop_core.specs.Grammar.{IsMessage, SpellsFields}
use Rattle.giop_core.specs.Laws.{with_rest, written_fields, CanBeWritten, HaveTags, IsReadAs, IsTarget, ReadMessagesAreReadAgain, ReadMessagesCanBeWritten}
use Rattle.giop_core.specs.Messages.{is_unknown, rest_at}
use Rattle.giop_core.specs.Rows.{contexts, reserved, row, selected, target}
use Rattle.giop_core.specs.Written.{cancel_fields, locate_request_fields, CanAddress, CanAsk}
use Rattle.giop_core.proofs.ReadAgain.{cancel_fits, cancel_says, locate_reply_read, locate_request_fits, locate_request_says, read_as, reply_read, request_read, FitRow}
use Rattle.giop_core.proofs.Spelled.{message_found}

-- rows of valid types

abbrev AllValid : List Form → Type 0
AllValid [] = Unit {0}
AllValid (t ∷ ts) = IsValid t × AllValid ts

contexts_valid : IsValid contexts
contexts_valid = ((λ e. absurd cc), (tt, (tt, tt)))

reserved_valid : IsValid reserved
reserved_valid = (omega arith, omega arith, tt)

reference_valid : IsValid reference
reference_valid = ((λ e. absurd cc), (tt, (contexts_valid, tt)))

target_valid : IsValid target
target_valid =
    (tt, tt, (omega arith, ((λ e. absurd cc), ((λ e. absurd cc), tt)), tt, (omega arith, ((λ e. absurd cc), tt), ((λ e. absurd cc), (tt, (tt, tt))), (omega arith, tt, ((λ e. absurd cc), (tt, (reference_valid, tt))), tt))))

row_valid : (version : Version) (kind : MessageKind) → AllValid (row version kind)
unfolding row
row_valid V10 kind.Request = (contexts_valid, (tt, (tt, (tt, (tt, (tt, tt))))))
row_valid V11 kind.Request = (contexts_valid, (tt, (tt, (reserved_valid, (tt, (tt, (tt, tt)))))))
row_valid V12 kind.Request = (tt, (tt, (reserved_valid, (target_valid, (tt, (contexts_valid, tt))))))
row_valid V10 kind.Reply = (contexts_valid, (tt, (omega arith, tt)))
row_valid V11 kind.Reply = (contexts_valid, (tt, (omega arith, tt)))
row_valid V12 kind.Reply = (tt, (omega arith, (contexts_valid, tt)))
row_valid V10 kind.CancelRequest = (tt, tt)
row_valid V11 kind.CancelRequest = (tt, tt)
row_valid V12 kind.CancelRequest = (tt, tt)
row_valid V10 kind.LocateRequest = (tt, (tt, tt))
row_valid V11 kind.LocateRequest = (tt, (tt, tt))
row_valid V12 kind.LocateRequest = (tt, (target_valid, tt))
row_valid V10 kind.LocateReply = (tt, (omega arith, tt))
row_valid V11 kind.LocateReply = (tt, (omega arith, tt))
row_valid V12 kind.LocateReply = (tt, (omega arith, tt))
row_valid V12 kind.Fragment = (tt, tt)
row_valid V10 kind.Fragment = tt
row_valid V11 kind.Fragment = tt
row_valid V10 kind = tt
row_valid V11 kind = tt
row_valid V12 kind = tt

-- octets in two parts

parts_of : (octets front rest : List ℕ) → octets ≡ front ++ rest → AreOctets octets → AreOctets front × AreOctets rest
parts_of octets front rest e all = by front rest (subst AreOctets e all)
  where
    by : (xs ys : List ℕ) → AreOctets (xs ++ ys) → AreOctets xs × AreOctets ys
    by [] ys h = (tt, h)
    by (x ∷ xs) ys h = let p = by xs ys h.1 in ((h.0, p.0), p.1)

fields_fit : SpelledFits → (ts : List Form) (order : Order) (vs : List Value) (o : ℕ) (octets : List ℕ) → AllValid ts → AreOctets octets → SpellsFields ts order vs o octets → FitRow ts vs
fields_fit law [] order [] o octets valid all h = tt
fields_fit law [] order (v ∷ vs) o octets valid all h = absurd h
fields_fit law (t ∷ ts) order [] o octets valid all h = absurd h
fields_fit law (t ∷ ts) order (v ∷ vs) o octets valid all h =
    let p = parts_of octets h.front h.rest h.parts all in
    ((law t order v o h.front valid.0 p.0 h.first.0, h.first.1), fields_fit law ts order vs (o + length h.front) h.rest valid.1 p.1 h.second)

-- the field at a place fits the type there

abbrev form_at : ℕ → List Form → Form
form_at n [] = form.boolean
form_at zero (t ∷ ts) = t
form_at (suc n) (t ∷ ts) = form_at n ts

nth_fits : (n : ℕ) (ts : List Form) (vs : List Value) → FitRow ts vs → Fits (form_at n ts) (nth n vs) × (is_unknown (nth n vs) ≡ false)
nth_fits n [] [] h = (tt, refl)
nth_fits n [] (v ∷ vs) h = absurd h
nth_fits n (t ∷ ts) [] h = absurd h
nth_fits zero (t ∷ ts) (v ∷ vs) h = h.0
nth_fits (suc n) (t ∷ ts) (v ∷ vs) h = nth_fits n ts vs h.1

-- what values that fit say

ulong_small : (v : Value) → Fits ulong v → natural v < 2 ^ 32
ulong_small (value.number same z) h = omega (arith, ints, h.1)
ulong_small _ h = absurd h

ordinal_below : (n : ℕ) (v : Value) → Fits (form.enumeration n) v → natural v < n
ordinal_below n (value.enumeration x) h = h.0
ordinal_below n _ h = absurd h

text_clean : (v : Value) → Fits text v → IsClean (content_octets v)
text_clean (value.string xs) h = h.2
text_clean _ h = absurd h

tag_small : (v : Value) → Fits tagged v → (tagged_of v).0 < 2 ^ 32
tag_small (value.structure (value.value a vs)) h = ulong_small a h.0
tag_small (value.structure value.no_values) h = absurd h
tag_small _ h = absurd h

items_small : (vs : Values) → AllFit (Fits tagged) vs → HaveTags (all_tagged vs)
items_small value.no_values h = tt
items_small (value.value v vs) h = (tag_small v h.0, items_small vs h.1)

list_small : (v : Value) → Fits contexts v → HaveTags (items_of v)
list_small (value.sequence vs) h = items_small vs h.2
list_small _ h = absurd h

reference_small : (v : Value) → Fits reference v → IsClean (content_octets (member 0 (parts v))) × HaveTags (items_of (member 1 (parts v)))
reference_small (value.structure (value.value a (value.value b vs))) h = (text_clean a h.0, list_small b h.1.0)
reference_small (value.structure (value.value a value.no_values)) h = absurd h.1
reference_small (value.structure value.no_values) h = absurd h
reference_small _ h = absurd h

selected_small : (v : Value) → Fits selected v → IsTarget (content.by_selected (natural (member 0 (parts v))) (parts (member 1 (parts v))))
selected_small (value.structure (value.value a (value.value b vs))) h = let r = reference_small b h.1.0 in (ulong_small a h.0, r.0, r.1)
selected_small (value.structure (value.value a value.no_values)) h = absurd h.1
selected_small (value.structure value.no_values) h = absurd h
selected_small _ h = absurd h

key_addresses : (version : Version) (v : Value) → Fits raw v → CanAddress version (addressed v) × IsTarget (addressed v)
key_addresses V10 (value.octets xs) h = (tt, tt)
key_addresses V11 (value.octets xs) h = (tt, tt)
key_addresses V12 (value.octets xs) h = (tt, tt)
key_addresses V10 _ h = absurd h
key_addresses V11 _ h = absurd h
key_addresses V12 _ h = absurd h

asks : (version : Version) (v : Value) → Fits form.boolean v → CanAsk version (wish_of v)
asks V10 (value.boolean true) h = tt
asks V10 (value.boolean false) h = tt
asks V11 (value.boolean true) h = tt
asks V11 (value.boolean false) h = tt
asks V12 v h = tt
asks V10 _ h = absurd h
asks V11 _ h = absurd h

-- a target

-- a label equals another as the other equals it
same_test : (y z : ℤ) → int_eq y z ≡ int_eq z y
same_test y z = by (int_eq y z) (int_eq z y) (Decides-int_eq y z) (Decides-int_eq z y)
  where
    by : (a b : Bool) → Decides a (y ≡ z) → Decides b (z ≡ y) → a ≡ b
    by true true p q = refl
    by false false p q = refl
    by true false p q = sym (q.1 (sym (p.0 refl)))
    by false true p q = p.1 (sym (q.0 refl))

none_of_three : (b0 b1 b2 : Bool) → Chosen b0 ⊥ (Chosen b1 ⊥ (Chosen b2 ⊥ ⊥)) → ⊥
none_of_three true b1 b2 h = h
none_of_three false true b2 h = h
none_of_three false false true h = h
none_of_three false false false h = h

abbrev chosen_as : Bool → Bool → Value → Addressed
chosen_as c0 c1 v = cond c0 (content.by_key (content_octets v)) (cond c1 (content.by_profile (tagged_of v).0 (tagged_of v).1) (content.by_selected (natural (member 0 (parts v))) (parts (member 1 (parts v)))))

one_of_three : (b0 b1 b2 : Bool) (v : Value) → Chosen b0 (Fits raw v) (Chosen b1 (Fits tagged v) (Chosen b2 (Fits selected v) ⊥)) → IsTarget (chosen_as b0 b1 v)
one_of_three true b1 b2 v h = tt
one_of_three false true b2 v h = tag_small v h
one_of_three false false true v h = selected_small v h
one_of_three false false false v h = absurd h

member_small : (z : ℤ) (d : Value) (vs : Values) → FitsChosen (form.labelled (pos 0) raw (form.labelled (pos 1) tagged (form.labelled (pos 2) selected form.otherwise_nothing))) z vs
    → is_unknown (value.union d vs) ≡ false → IsTarget (addressed_as z (member 0 vs))
member_small z d value.no_values h known = absurd cc
member_small z d (value.value v (value.value w ws)) h known = absurd (none_of_three (int_eq (pos 0) z) (int_eq (pos 1) z) (int_eq (pos 2) z) h)
member_small z d (value.value v value.no_values) h known =
    subst (λ (c : Bool). IsTarget (chosen_as c (int_eq z (pos 1)) v)) (same_test (pos 0) z)
    (subst (λ (c : Bool). IsTarget (chosen_as (int_eq (pos 0) z) c v)) (same_test (pos 1) z) (one_of_three (int_eq (pos 0) z) (int_eq (pos 1) z) (int_eq (pos 2) z) v h))

target_small : (v : Value) → Fits target v → is_unknown v ≡ false → IsTarget (addressed v)
target_small (value.union (value.number same z) vs) h known = member_small z (value.number same z) vs h.1 known
target_small (value.union _ vs) h known = absurd h.0
target_small _ h known = absurd h

-- a message

fields_can : (version : Version) (kind : MessageKind) (vs : List Value) (r : Rest) → FitRow (row version kind) vs → CanBeWritten version (content version kind vs r)
unfolding row content
fields_can V10 kind.Request vs r h =
    let at = λ (n : ℕ). nth_fits n (row V10 kind.Request) vs h in
    let k = key_addresses V10 (nth 3 vs) (at 3).0 in
    (ulong_small (nth 1 vs) (at 1).0, asks V10 (nth 2 vs) (at 2).0, k.0, k.1, text_clean (nth 4 vs) (at 4).0, list_small (nth 0 vs) (at 0).0)
fields_can V11 kind.Request vs r h =
    let at = λ (n : ℕ). nth_fits n (row V11 kind.Request) vs h in
    let k = key_addresses V11 (nth 4 vs) (at 4).0 in
    (ulong_small (nth 1 vs) (at 1).0, asks V11 (nth 2 vs) (at 2).0, k.0, k.1, text_clean (nth 5 vs) (at 5).0, list_small (nth 0 vs) (at 0).0)
fields_can V12 kind.Request vs r h =
    let at = λ (n : ℕ). nth_fits n (row V12 kind.Request) vs h in
    (ulong_small (nth 0 vs) (at 0).0, tt, tt, target_small (nth 3 vs) (at 3).0 (at 3).1, text_clean (nth 4 vs) (at 4).0, list_small (nth 5 vs) (at 5).0)
fields_can V10 kind.Reply vs r h =
    let at = λ (n : ℕ). nth_fits n (row V10 kind.Reply) vs h in
    (ulong_small (nth 1 vs) (at 1).0, ordinal_below 4 (nth 2 vs) (at 2).0, list_small (nth 0 vs) (at 0).0)
fields_can V11 kind.Reply vs r h =
    let at = λ (n : ℕ). nth_fits n (row V11 kind.Reply) vs h in
    (ulong_small (nth 1 vs) (at 1).0, ordinal_below 4 (nth 2 vs) (at 2).0, list_small (nth 0 vs) (at 0).0)
fields_can V12 kind.Reply vs r h =
    let at = λ (n : ℕ). nth_fits n (row V12 kind.Reply) vs h in
    (ulong_small (nth 0 vs) (at 0).0, ordinal_below 6 (nth 1 vs) (at 1).0, list_small (nth 2 vs) (at 2).0)
fields_can V10 kind.CancelRequest vs r h = ulong_small (nth 0 vs) (nth_fits 0 (row V10 kind.CancelRequest) vs h).0
fields_can V11 kind.CancelRequest vs r h = ulong_small (nth 0 vs) (nth_fits 0 (row V11 kind.CancelRequest) vs h).0
fields_can V12 kind.CancelRequest vs r h = ulong_small (nth 0 vs) (nth_fits 0 (row V12 kind.CancelRequest) vs h).0
fields_can V10 kind.LocateRequest vs r h =
    let at = λ (n : ℕ). nth_fits n (row V10 kind.LocateRequest) vs h in
    let k = key_addresses V10 (nth 1 vs) (at 1).0 in
    (ulong_small (nth 0 vs) (at 0).0, k.0, k.1)
fields_can V11 kind.LocateRequest vs r h =
    let at = λ (n : ℕ). nth_fits n (row V11 kind.LocateRequest) vs h in
    let k = key_addresses V11 (nth 1 vs) (at 1).0 in
    (ulong_small (nth 0 vs) (at 0).0, k.0, k.1)
fields_can V12 kind.LocateRequest vs r h =
    let at = λ (n : ℕ). nth_fits n (row V12 kind.LocateRequest) vs h in
    (ulong_small (nth 0 vs) (at 0).0, tt, target_small (nth 1 vs) (at 1).0 (at 1).1)
fields_can V10 kind.LocateReply vs r h =
    let at = λ (n : ℕ). nth_fits n (row V10 kind.LocateReply) vs h in
    (ulong_small (nth 0 vs) (at 0).0, ordinal_below 3 (nth 1 vs) (at 1).0)
fields_can V11 kind.LocateReply vs r h =
    let at = λ (n : ℕ). nth_fits n (row V11 kind.LocateReply) vs h in
    (ulong_small (nth 0 vs) (at 0).0, ordinal_below 3 (nth 1 vs) (at 1).0)
fields_can V12 kind.LocateReply vs r h =
    let at = λ (n : ℕ). nth_fits n (row V12 kind.LocateReply) vs h in
    (ulong_small (nth 0 vs) (at 0).0, ordinal_below 6 (nth 1 vs) (at 1).0)
fields_can V12 kind.Fragment vs r h = ulong_small (nth 0 vs) (nth_fits 0 (row V12 kind.Fragment) vs h).0
fields_can V10 kind.Fragment vs r h = tt
fields_can V11 kind.Fragment vs r h = tt
fields_can V10 kind vs r h = tt
fields_can V11 kind vs r h = tt
fields_can V12 kind vs r h = tt

module _ (found : ReadIsSpelled) (fits : SpelledFits) where
  spelled_can : (version : Version) (kind : MessageKind) (order : Order) (octets : List ℕ) (m : Content) → AreOctets octets → IsMessage version kind order octets m → CanBeWritten version m
  spelled_can version kind order octets m all s =
      let fit = fields_fit fits (row version kind) order s.fields 12 s.front (row_valid version kind) (parts_of octets s.front s.rest s.parts all).0 s.spelled in
      subst (CanBeWritten version) (sym s.says) (fields_can version kind s.fields (rest_at version kind order (12 + length s.front) s.rest) fit)

  pub message_can : ReadMessagesCanBeWritten
  message_can version kind order octets m all e = spelled_can version kind order octets m all (message_found found version kind order octets m e)

-- what can be written is read again

abbrev kind_of : Content → MessageKind
kind_of (content.request id wish to operation all rest) = kind.Request
kind_of (content.reply id status all rest) = kind.Reply
kind_of (content.cancel id) = kind.CancelRequest
kind_of (content.locate_request id to) = kind.LocateRequest
kind_of (content.locate_reply id status rest) = kind.LocateReply
kind_of content.close = kind.CloseConnection
kind_of content.error = kind.MessageError
kind_of (content.fragment id octets) = kind.Fragment

kind_again : (version : Version) (kind : MessageKind) (vs : List Value) (r : Rest) → kind_of (content version kind vs r) ≡ kind
unfolding content
kind_again V10 kind.Request vs r = refl
kind_again V10 kind.Reply vs r = refl
kind_again V10 kind.CancelRequest vs r = refl
kind_again V10 kind.LocateRequest vs r = refl
kind_again V10 kind.LocateReply vs r = refl
kind_again V10 kind.CloseConnection vs r = refl
kind_again V10 kind.MessageError vs r = refl
kind_again V10 kind.Fragment vs r = refl
kind_again V11 kind.Request vs r = refl
kind_again V11 kind.Reply vs r = refl
kind_again V11 kind.CancelRequest vs r = refl
kind_again V11 kind.LocateRequest vs r = refl
kind_again V11 kind.LocateReply vs r = refl
kind_again V11 kind.CloseConnection vs r = refl
kind_again V11 kind.MessageError vs r = refl
kind_again V11 kind.Fragment vs r = refl
kind_again V12 kind.Request vs r = refl
kind_again V12 kind.Reply vs r = refl
kind_again V12 kind.CancelRequest vs r = refl
kind_again V12 kind.LocateRequest vs r = refl
kind_again V12 kind.LocateReply vs r = refl
kind_again V12 kind.CloseConnection vs r = refl
kind_again V12 kind.MessageError vs r = refl
kind_again V12 kind.Fragment vs r = refl

close_says : (version : Version) (rest : Rest) → content version kind.CloseConnection [] rest ≡ content.close
unfolding content
close_says V10 rest = refl
close_says V11 rest = refl
close_says V12 rest = refl

error_says : (version : Version) (rest : Rest) → content version kind.MessageError [] rest ≡ content.error
unfolding content
error_says V10 rest = refl
error_says V11 rest = refl
error_says V12 rest = refl

close_fits : (version : Version) → FitRow (row version kind.CloseConnection) []
unfolding row
close_fits V10 = tt
close_fits V11 = tt
close_fits V12 = tt

error_fits : (version : Version) → FitRow (row version kind.MessageError) []
unfolding row
error_fits V10 = tt
error_fits V11 = tt
error_fits V12 = tt

module _ (read : SpelledIsRead) (spelled : WrittenIsSpelled) (version : Version) (order : Order) (body : Values) where
  again : (m : Content) → CanBeWritten version m → kind_of m ≢ kind.Fragment → IsReadAs version (kind_of m) order (written_fields version m) body (with_rest m)
  again (content.request id wish to operation contexts rest) can other = request_read read spelled version order id wish to operation contexts body can.0 can.1 can.2 can.3 can.4 can.5
  again (content.reply id status contexts rest) can other = reply_read read spelled version order id status contexts body can.0 can.1 can.2
  again (content.cancel id) can other =
      read_as read spelled version kind.CancelRequest order (cancel_fields id) body (λ _. content.cancel id) (cancel_says version id) (λ _. cancel_fits order id can version)
  again (content.locate_request id to) can other =
      read_as read spelled version kind.LocateRequest order (locate_request_fields version id to) body (λ _. content.locate_request id to)
      (λ rest. locate_request_says version id to rest can.1) (locate_request_fits order id can.0 version to can.1 can.2)
  again (content.locate_reply id status rest) can other = locate_reply_read read spelled version order id status body can.0 can.1
  again content.close can other = read_as read spelled version kind.CloseConnection order [] body (λ _. content.close) (close_says version) (λ _. close_fits version)
  again content.error can other = read_as read spelled version kind.MessageError order [] body (λ _. content.error) (error_says version) (λ _. error_fits version)
  again (content.fragment id octets) can other = absurd (other refl)

kind_found : (version : Version) (kind : MessageKind) (order : Order) (octets : List ℕ) (m : Content) → IsMessage version kind order octets m → kind_of m ≡ kind
kind_found version kind order octets m s = ap kind_of s.says ∙ kind_again version kind s.fields (rest_at version kind order (12 + length s.front) s.rest)

pub message_again : ReadIsSpelled → SpelledFits → SpelledIsRead → WrittenIsSpelled → ReadMessagesAreReadAgain
message_again found fits read spelled version kind order octets m all e other order' body =
    let is = kind_found version kind order octets m (message_found found version kind order octets m e) in
    subst (λ (k : MessageKind). IsReadAs version k order' (written_fields version m) body (with_rest m)) is
    (again read spelled version order' body m (message_can found fits version kind order octets m all e) (λ same. other (sym is ∙ same)))
