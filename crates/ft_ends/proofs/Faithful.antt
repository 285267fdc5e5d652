-- Nothing is heard on either direction but what was said.
use Rattle.std.proofs.Common.{◌≡◌, ℕ, ◌<◌, ◌≤◌, ◌^◌, List, [], ◌∷◌, ◌++◌, FitsSigned, filter_map, length, map, pos, refl, sym, ap, subst, ◌∙◌, arith}
use Rattle.std.proofs.lemmas.Int.{ints}
use Rattle.std.specs.Int.{w32}
use Rattle.std.specs.List.{AllByRecursion, cons_option}
use Rattle.cdr_core.specs.declared.order.Order.TheVariants.{Big}
use Rattle.cdr_core.specs.Value.{no_values}
use Rattle.giop_core.specs.declared.header.Version.{Version}
use Rattle.giop_core.specs.declared.header.Version.TheVariants.{V10, V11, V12}
use Rattle.giop_core.specs.declared.request.ReplyWish.TheVariants.{Full}
use Rattle.giop_core.specs.Content as content
use Rattle.giop_core.specs.Content.{Content, Rest, by_key}
use Rattle.giop_core.specs.Ft.{Ft, ft_in, present}
use Rattle.giop_core.specs.Written.{CanAsk, locate_statuses, reply_statuses}
use Rattle.giop_frames.specs.declared.limits.Limits.{Limits}
use Rattle.giop_link.specs.Answering.{Answer, answer_to, client_heard}
use Rattle.giop_link.specs.Hearing.{Incoming, heard, meaning_in}
use Rattle.giop_link.specs.Laws.{CancelsGoOut, FarewellsGoOut, HeardIsMeant, HearingGrows, LocateRepliesGoOut, RepliesGoOut, RequestsGoOut}
use Rattle.giop_link.specs.Outgoing.{CanGoOut, Outgoing, heard_by, meant, octets_of_each}
use Rattle.ft_client.specs.Directions.{stream}
use Rattle.ft_client.specs.Messages.{Asked, Form, Said, Transmission, Withdrawn, contexts_of, incoming_of, octets_said, order_of, request_behind, wish_of}
use Rattle.ft_orb.specs.ExactlyOnce.{Present}
use Rattle.ft_orb.specs.Requests.{field_by, field_of}
use Rattle.ft_ends.specs.Both.{key_of}
use Rattle.ft_ends.specs.Fine.{IsFine, IsFineSaid, IsFineTelling, IsFront}
use Rattle.ft_ends.specs.Laws.{DirectionsAreFaithful}
use Rattle.ft_orb.specs.Tellings.{Closing, Failed, Located, Replied, Telling, octets_told}
use Rattle.ft_ends.specs.Tellings.{answer_in}

-- the octets of a body that do not count
nothing : Rest
nothing = record { order = Big; place = 0; octets = [] }

-- what a client says, as messages that are written

abbrev said_out : Said → Outgoing
said_out (Asked t) = record { version = t.version; order = order_of t.call.form; content = content.request t.request_id (wish_of t.call.form) (by_key t.at) t.call.operation (contexts_of t) nothing; body = t.call.arguments }
said_out (Withdrawn version request_id) = record { version = version; order = Big; content = content.cancel request_id; body = no_values }

said-octets : (ms : List Said) → octets_of_each (map said_out ms) ≡ stream octets_said ms
said-octets [] = refl
said-octets (Asked t ∷ ms) = ap (λ (xs : List ℕ). octets_said (Asked t) ++ xs) (said-octets ms)
said-octets (Withdrawn version request_id ∷ ms) = ap (λ (xs : List ℕ). octets_said (Withdrawn version request_id) ++ xs) (said-octets ms)

said-meant : (ms : List Said) → meant meaning_in (map said_out ms) ≡ map incoming_of ms
said-meant [] = refl
said-meant (Asked t ∷ ms) = ap (λ (xs : List Incoming). incoming_of (Asked t) ∷ xs) (said-meant ms)
said-meant (Withdrawn version request_id ∷ ms) = ap (λ (xs : List Incoming). incoming_of (Withdrawn version request_id) ∷ xs) (said-meant ms)

can-ask : (version : Version) → CanAsk version Full
can-ask V10 = tt
can-ask V11 = tt
can-ask V12 = tt

fits : (n : ℕ) → n < 2 ^ 31 → FitsSigned w32 (pos n)
fits n small = omega (arith, ints)

-- a transmission of a call of another form
abbrev of_form : Transmission → Form → Transmission
of_form t f = record t { call = record t.call { form = f } }

module _ (asked : RequestsGoOut) where
  request : (t : Transmission) → IsFine t → CanGoOut (said_out (Asked t)) × (ft_in (contexts_of t) ≡ present t.client_id (pos t.retention_id) t.call.expiration)
  request t fine =
      subst (λ f. CanGoOut (said_out (Asked (of_form t f))) × (ft_in (contexts_of (of_form t f)) ≡ present t.client_id (pos t.retention_id) t.call.expiration)) (sym fine.call.values)
      (asked t.version Big t.request_id Full t.at t.call.operation t.client_id (pos t.retention_id) t.call.expiration nothing t.call.arguments
      fine.id (can-ask t.version) fine.call.operation fine.client (fits t.retention_id fine.number) fine.call.expiration (subst (λ f. length (request_behind (of_form t f)) < 4294967296) fine.call.values fine.size))

  carried : (t : Transmission) → IsFine t → field_of (contexts_of t) ≡ Present (key_of t) t.call.expiration
  carried t fine = ap (λ (x : Ft). field_by x) (request t fine).1

  module _ (withdrawn : CancelsGoOut) (heard_is : HeardIsMeant meaning_in) where
    said-goes : (m : Said) → IsFineSaid m → CanGoOut (said_out m)
    said-goes (Asked t) fine = (request t fine).0
    said-goes (Withdrawn version request_id) fine = withdrawn version Big request_id no_values fine

    all-said : (ms : List Said) → AllByRecursion IsFineSaid ms → AllByRecursion CanGoOut (map said_out ms)
    all-said [] fine = tt
    all-said (m ∷ ms) fine = (said-goes m fine.0, all-said ms fine.1)

    said-heard : (limits : Limits) (ms : List Said) → AllByRecursion IsFineSaid ms → IsFront (heard limits (stream octets_said ms)) (map incoming_of ms)
    said-heard limits ms fine =
        let f = heard_is limits (map said_out ms) (all-said ms fine) in
        (f.0, sym (said-meant ms) ∙ f.1 ∙ ap (λ (s : List ℕ). heard limits s ++ f.0) (said-octets ms))

-- what a server says

abbrev told_out : Telling → Outgoing
told_out (Replied version order id status body) = record { version = version; order = order; content = content.reply id status [] nothing; body = body }
told_out (Located version id status) = record { version = version; order = Big; content = content.locate_reply id status nothing; body = no_values }
told_out Failed = record { version = V10; order = Big; content = content.error; body = no_values }
told_out Closing = record { version = V10; order = Big; content = content.close; body = no_values }

told-octets : (ts : List Telling) → octets_of_each (map told_out ts) ≡ stream octets_told ts
told-octets [] = refl
told-octets (Replied version order id status body ∷ ts) = ap (λ (xs : List ℕ). octets_told (Replied version order id status body) ++ xs) (told-octets ts)
told-octets (Located version id status ∷ ts) = ap (λ (xs : List ℕ). octets_told (Located version id status) ++ xs) (told-octets ts)
told-octets (Failed ∷ ts) = ap (λ (xs : List ℕ). octets_told Failed ++ xs) (told-octets ts)
told-octets (Closing ∷ ts) = ap (λ (xs : List ℕ). octets_told Closing ++ xs) (told-octets ts)

few-statuses : (version : Version) (status : ℕ) → status ≤ 3 → status < reply_statuses version
few-statuses V10 status few = omega arith
few-statuses V11 status few = omega arith
few-statuses V12 status few = omega arith

few-locates : (version : Version) (status : ℕ) → status ≤ 1 → status < locate_statuses version
few-locates V10 status few = omega arith
few-locates V11 status few = omega arith
few-locates V12 status few = omega arith

module _ (replies : RepliesGoOut) (locates : LocateRepliesGoOut) (farewells : FarewellsGoOut) where
  told-goes : (t : Telling) → IsFineTelling t → CanGoOut (told_out t)
  told-goes (Replied version order id status body) fine = (replies version order id status nothing body fine.0 (few-statuses version status fine.1) (let few = fine.2 in omega arith)).0
  told-goes (Located version id status) fine = (locates version Big id status nothing fine.0 (few-locates version status fine.1)).0
  told-goes Failed fine = (farewells V10 Big no_values).1
  told-goes Closing fine = (farewells V10 Big no_values).0

  all-told : (ts : List Telling) → AllByRecursion IsFineTelling ts → AllByRecursion CanGoOut (map told_out ts)
  all-told [] fine = tt
  all-told (t ∷ ts) fine = (told-goes t fine.0, all-told ts fine.1)

  told-meant : (ts : List Telling) → AllByRecursion IsFineTelling ts → meant answer_to (map told_out ts) ≡ filter_map answer_in ts
  told-meant [] fine = refl
  told-meant (Replied version order id status body ∷ ts) fine =
      let said = (replies version order id status nothing body fine.0.0 (few-statuses version status fine.0.1) (let few = fine.0.2 in omega arith)).1 in
      ap (λ (m : Content). cons_option (heard_by (answer_to version m)) (meant answer_to (map told_out ts))) said ∙ ap (λ (xs : List Answer). cons_option (answer_in (Replied version order id status body)) xs) (told-meant ts fine.1)
  told-meant (Located version id status ∷ ts) fine =
      let said = (locates version Big id status nothing fine.0.0 (few-locates version status fine.0.1)).1 in
      ap (λ (m : Content). cons_option (heard_by (answer_to version m)) (meant answer_to (map told_out ts))) said ∙ ap (λ (xs : List Answer). cons_option (answer_in (Located version id status)) xs) (told-meant ts fine.1)
  told-meant (Failed ∷ ts) fine = told-meant ts fine.1
  told-meant (Closing ∷ ts) fine = told-meant ts fine.1

  told-heard : HeardIsMeant answer_to → (own : Limits) (ts : List Telling) → AllByRecursion IsFineTelling ts → IsFront (client_heard own (stream octets_told ts)) (filter_map answer_in ts)
  told-heard meant_is own ts fine =
      let f = meant_is own (map told_out ts) (all-told ts fine) in
      (f.0, sym (told-meant ts fine) ∙ f.1 ∙ ap (λ (s : List ℕ). client_heard own s ++ f.0) (told-octets ts))

pub directions-faithful : RequestsGoOut → CancelsGoOut → HeardIsMeant meaning_in → RepliesGoOut → LocateRepliesGoOut → FarewellsGoOut → HeardIsMeant answer_to → HearingGrows answer_to → DirectionsAreFaithful
directions-faithful asked withdrawn heard_is replies locates farewells meant_is grow limits = record {
  asked = said-heard asked withdrawn heard_is limits;
  carried = carried asked;
  grows = λ own s c. grow own s c;
  answered = told-heard replies locates farewells meant_is;
}
