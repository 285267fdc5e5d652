-- What a call does to a client's link and to the exchange that it stands for.
use Rattle.std.proofs.Common.{◌≡◌, ℕ, ◌<◌, ◌≤◌, Bool, true, false, cond, if◌then◌else◌, List, [], ◌++◌, length, take, drop, Option, Some, None, is_some, IsSome, Result, Ok, Err, IfOk, OnErr, OnOk, refl, sym, ap, subst, ◌∙◌, arith}
use Rattle.std.proofs.Math.Seq.{drop-append_seam}
use Rattle.giop_core.specs.declared.header.Version.{Version}
use Rattle.giop_frames.specs.declared.limits.Limits.{Limits}
use Rattle.giop_frames.specs.Frames.{Frame}
use Rattle.giop_link.specs.declared.error.LinkFault.{LinkFault}
use Rattle.giop_link.specs.declared.listener.PeerEnd.{PeerEnd}
use Rattle.giop_link.specs.declared.awaited.Outstanding.{Outstanding}
use Rattle.giop_link.specs.Answering.{Answer, answer_to, client_ending, client_heard, client_news}
use Rattle.giop_link.specs.ClientLinking.{ClientLinked, ClientStands, Exchange, IsCalm, TakesIn, Terms, all_left, delivered, end_in, left_at}
use Rattle.giop_link.specs.Hearing.{Ending, Sound, ends, says, sound_of}
use Rattle.giop_link.specs.Ids.{Ids, given_up, is_of, without}
use Rattle.giop_link.specs.Listening.{Brings, Listened, ListenerStands, closed, ending_in, heard_in, lent_by, spoken, spoken_by, told_with}
use Rattle.giop_link.specs.Private.{client_linked, settled_left, settles, told_if, told_in, told_of}
use Rattle.giop_link.proofs.Waiting.{fewer-wait}

-- giving up an id

-- the ids of a link
pub ids-of : (terms : Terms) (ids : Ids) (b : Bool) (l : Listened) → (client_linked terms ids b l).ids ≡ ids
ids-of terms ids b l = refl

relinked : (terms : Terms) (ids more : Ids) (b : Bool) (l : Listened) → client_linked terms more b l ≡ record (client_linked terms ids b l) { ids = more }
relinked terms ids more b l = refl

-- a link with other ids that are outstanding
abbrev pub ids_with : ℕ → List Outstanding → Ids
ids_with given os = record { given = given; outstanding = os }

pub is-awaited : (terms : Terms) (given : ℕ) (os : List Outstanding) (b : Bool) (l : Listened) (v : ClientLinked) → client_linked terms (ids_with given os) b l ≡ v → os ≡ v.ids.outstanding
is-awaited terms given os b l v view = sym (ap (λ (ids : Ids). ids.outstanding) (ids-of terms (ids_with given os) b l)) ∙ ap (λ (w : ClientLinked). w.ids.outstanding) view

pub on-err : {A E : Type 0} → (r : Result A E) (P : Type 0) → P → OnErr r P
on-err (Ok x) P p = tt
on-err (Err e) P p = p

pub gives-up : (terms : Terms) (given : ℕ) (os more : List Outstanding) (b : Bool) (l : Listened) (v : ClientLinked) (id : ℕ) → client_linked terms (ids_with given os) b l ≡ v → more ≡ without (is_of id None) os
    → client_linked terms (ids_with given more) b l ≡ record v { ids = given_up id v.ids }
gives-up terms given os more b l v id view is =
    let old = client_linked terms (ids_with given os) b l in
    subst (λ (w : ClientLinked). client_linked terms (ids_with given more) b l ≡ record w { ids = given_up id w.ids }) view
    (relinked terms (ids_with given os) (ids_with given more) b l
    ∙ ap (λ (ms : List Outstanding). let w : ClientLinked = record old { ids = ids_with given ms } in w) is
    ∙ ap (λ (ids : Ids). let w : ClientLinked = record old { ids = given_up id ids } in w) (sym (ids-of terms (ids_with given os) b l)))

pub stands-without : (terms : Terms) (x : Exchange) (v w : ClientLinked) (id : ℕ) → w ≡ record v { ids = given_up id v.ids } → ClientStands terms v x → ClientStands terms w (record x { ids = given_up id x.ids })
stands-without terms x v w id is st =
    let new : ClientLinked = record v { ids = given_up id v.ids } in
    let stands : ClientStands terms new (record x { ids = given_up id x.ids }) = record { terms_are = st.terms_are; ids_are = ap (given_up id) st.ids_are; is_ended = st.is_ended; holds = st.holds } in
    subst (λ (l : ClientLinked). ClientStands terms l (record x { ids = given_up id x.ids })) (sym is) stands

-- octets that come

sound-left : (μ : Option (Sound Answer)) (os : List Outstanding) → all_left (heard_in μ) os ≡ settled_left μ os
sound-left None os = refl
sound-left (Some (says a)) os = refl
sound-left (Some (ends e)) os = refl

sound-told : (μ : Sound Answer) (os : List Outstanding) → cond (settles (spoken μ) os) (told_of (spoken μ)) None ≡ delivered (spoken μ) os
sound-told (says a) os = refl
sound-told (ends e) os = refl

told-is : (b : Bool) (f : Option Frame) → told_if b f ≡ cond b (told_of (spoken_by answer_to f)) None
told-is true f = refl
told-is false f = refl

sound-endless : (μ : Sound Answer) → (end_in (told_of (spoken μ)) ≡ None) × (ending_in None (spoken μ) ≡ None)
sound-endless (says a) = (refl, refl)
sound-endless (ends e) = (refl, refl)

-- no more ids wait after an answer
pub settled-fewer : (μ : Option (Sound Answer)) (os : List Outstanding) → length (settled_left μ os) ≤ length os
settled-fewer None os = omega arith
settled-fewer (Some (says a)) os = fewer-wait _ os
settled-fewer (Some (ends e)) os = omega arith

-- the ids that are left, and whether a message is delivered
abbrev pub left_in : Listened → List Outstanding → List Outstanding
left_in l os = if l.is_closed then [] else settled_left (spoken_by answer_to l.message) os

abbrev pub delivers_in : Listened → List Outstanding → Bool
delivers_in l os = if l.is_closed then false else settles (spoken_by answer_to l.message) os

-- what is lent is what is delivered
lends : (end : Option PeerEnd) (shut : Bool) (m : Option Frame) (os : List Outstanding) → (shut ≡ true → m ≡ None)
    → told_with end (told_if (cond shut false (settles (spoken_by answer_to m) os)) m) ≡ delivered (told_with end (spoken_by answer_to m)) os
lends (Some p) shut m os none = refl
lends None true m os none = sym (ap (λ (f : Option Frame). delivered (spoken_by answer_to f) os) (none refl))
lends None false None os none = refl
lends None false (Some f) os none = told-is (settles (spoken (sound_of answer_to f)) os) (Some f) ∙ sound-told (sound_of answer_to f) os

-- an end is lent as one
ends-so : (b : Bool) (m : Option Frame) → end_in (told_if b m) ≡ ending_in None (spoken_by answer_to m)
ends-so b None = ap end_in (told-is b None) ∙ (elim b as (λ b. end_in (cond b None None) ≡ None) [ true ↦ refl | false ↦ refl ])
ends-so true (Some f) = (sound-endless (sound_of answer_to f)).0 ∙ sym (sound-endless (sound_of answer_to f)).1
ends-so false (Some f) = sym (sound-endless (sound_of answer_to f)).1

ends-in : (end : Option PeerEnd) (b : Bool) (m : Option Frame) → end_in (told_with end (told_if b m)) ≡ ending_in None (told_with end (spoken_by answer_to m))
ends-in None b m = ends-so b m
ends-in (Some p) b m = refl

left-by : (shut : Bool) (o : Option Ending) (μ : Option (Sound Answer)) (left os : List Outstanding) → shut ≡ is_some o → left ≡ settled_left μ os → cond shut [] left ≡ left_at o (all_left (heard_in μ) os)
left-by true None μ left os is so = absurd cc
left-by true (Some e) μ left os is so = refl
left-by false None μ left os is so = so ∙ sym (sound-left μ os)
left-by false (Some e) μ left os is so = absurd cc

shut-by : (shut : Bool) (o : Option Ending) → shut ≡ is_some o → IsSome o → shut ≡ true
shut-by true o is some = refl
shut-by false None is some = let no : false ≡ true = some in cc
shut-by false (Some e) is some = absurd cc

-- what a link's listener did with a piece
module _ (version : Version) (most : ℕ) (terms : Terms) (ids : Ids) (b : Bool) (l m : Listened) (x : Exchange) (piece : List ℕ) where
  pub record Fed (r : Result ℕ LinkFault) : Type 0 where
    pub stood : ClientStands terms (client_linked (record { limits = l.limits; version = version; most = most }) ids b l) x
    pub stands : IfOk r (λ n. ListenerStands answer_to terms.limits m (x.received ++ take n piece))
    pub brings : IfOk r (λ n. Brings answer_to terms.limits x.received (take n piece) (lent_by answer_to m))
    pub first : IfOk r (λ n. (k : ℕ) → k < n → IsCalm terms.limits x.received (take k piece))
    pub all : IfOk r (λ n. lent_by answer_to m ≡ None → n ≡ length piece)
    pub idle : OnOk r (lent_by answer_to m ≡ None → m.message ≡ None)
    pub closed : l.is_closed ≡ true → (r ≡ Ok (length piece)) × (m ≡ closed l)
    pub same : m.limits ≡ l.limits
    -- a closed listener lends no message, and one that is not closed no end
    pub silent : m.is_closed ≡ true → m.message ≡ None
    pub open_yet : m.is_closed ≡ false → m.end ≡ None

  abbrev pub goes_to : List Outstanding → Bool → ClientLinked
  goes_to os delivers = client_linked (record { limits = m.limits; version = version; most = most }) (record { given = ids.given; outstanding = os }) delivers m

  takes-in : (n : ℕ) → Fed (Ok n) → TakesIn terms x piece n (goes_to (left_in m ids.outstanding) (delivers_in m ids.outstanding))
  takes-in n g =
      let s = x.received in
      let t = take n piece in
      let μ = lent_by answer_to m in
      let news : client_news terms.limits s t ≡ heard_in μ = ap (drop (length (client_heard terms.limits s))) g.brings.heard_is ∙ drop-append_seam (client_heard terms.limits s) (heard_in μ) in
      let given : ids.given ≡ x.ids.given = ap (λ (i : Ids). i.given) g.stood.ids_are in
      let outstanding : left_in m ids.outstanding ≡ left_at (client_ending terms.limits (s ++ t)) (all_left (client_news terms.limits s t) x.ids.outstanding) =
      (elim (m.is_closed) as (λ c. m.is_closed ≡ c → cond c [] (settled_left (spoken_by answer_to m.message) ids.outstanding) ≡ left_at (client_ending terms.limits (s ++ t)) (all_left (heard_in μ) ids.outstanding)) [
        | true ↦ λ is. left-by true (client_ending terms.limits (s ++ t)) μ (settled_left μ ids.outstanding) ids.outstanding (sym is ∙ g.stands.is_ended) refl
        | false ↦ λ is. left-by false (client_ending terms.limits (s ++ t)) μ (settled_left (spoken_by answer_to m.message) ids.outstanding) ids.outstanding (sym is ∙ g.stands.is_ended)
            (ap (λ (end : Option PeerEnd). settled_left (told_with end (spoken_by answer_to m.message)) ids.outstanding) (sym (g.open_yet is)))
      ]) refl
      ∙ ap (λ (ns : List Answer). left_at (client_ending terms.limits (s ++ t)) (all_left ns ids.outstanding)) (sym news)
      ∙ ap (λ (i : Ids). left_at (client_ending terms.limits (s ++ t)) (all_left (client_news terms.limits s t) i.outstanding)) g.stood.ids_are in
      record {
        stands = record {
          terms_are = ap (λ (w : Limits). let own : Terms = record { limits = w; version = version; most = most } in own) g.same ∙ g.stood.terms_are;
          ids_are = λ i. record { given = given i; outstanding = outstanding i };
          is_ended = g.stands.is_ended;
          holds = g.stands.holds;
        };
        message = μ;
        heard = news;
        ended_by = g.brings.ending_is;
        lends = lends m.end m.is_closed m.message ids.outstanding g.silent ∙ ap (λ (i : Ids). delivered μ i.outstanding) g.stood.ids_are;
        left = λ going. ends-in m.end (delivers_in m ids.outstanding) m.message ∙ sym (g.brings.ending_is ∙ ap (λ (e : Option Ending). ending_in e μ) going);
        once = λ some. ap (λ (z : Listened). told_in (delivers_in z ids.outstanding) z) (g.closed (shut-by (l.is_closed) (client_ending terms.limits s) g.stood.is_ended some)).1;
        all = g.all;
        idle = g.idle;
        first = g.first;
      }

  pub takes-fed : (r : Result ℕ LinkFault) (os : List Outstanding) (delivers : Bool) → os ≡ left_in m ids.outstanding → delivers ≡ delivers_in m ids.outstanding → Fed r → IfOk r (λ n. TakesIn terms x piece n (goes_to os delivers))
  takes-fed (Ok n) os delivers left by g =
      subst (λ (ws : List Outstanding). TakesIn terms x piece n (goes_to ws delivers)) (sym left)
      (subst (λ (d : Bool). TakesIn terms x piece n (goes_to (left_in m ids.outstanding) d)) (sym by) (takes-in n g))
  takes-fed (Err e) os delivers left by g = tt

  pub fed : (r : Result ℕ LinkFault) → ClientStands terms (client_linked (record { limits = l.limits; version = version; most = most }) ids b l) x
      → ((limits : Limits) (s : List ℕ) → ListenerStands answer_to limits l s → IfOk r (λ n. ListenerStands answer_to limits m (s ++ take n piece)))
      → ((limits : Limits) (s : List ℕ) → ListenerStands answer_to limits l s → IfOk r (λ n. Brings answer_to limits s (take n piece) (lent_by answer_to m)))
      → ((limits : Limits) (s : List ℕ) → ListenerStands answer_to limits l s → IfOk r (λ n. (k : ℕ) → k < n → IsCalm limits s (take k piece)))
      → IfOk r (λ n. lent_by answer_to m ≡ None → n ≡ length piece) → OnOk r (lent_by answer_to m ≡ None → m.message ≡ None)
      → (l.is_closed ≡ true → (r ≡ Ok (length piece)) × (m ≡ closed l)) → m.limits ≡ l.limits → (m.is_closed ≡ true → m.message ≡ None) → (m.is_closed ≡ false → m.end ≡ None) → Fed r
  fed r st stands brings first all idle shut same silent open_yet =
      let at : ListenerStands answer_to terms.limits l x.received = record { limits_are = ap (λ (w : Terms). w.limits) st.terms_are; is_ended = st.is_ended; holds = st.holds } in
      record {
        stood = st;
        stands = stands terms.limits x.received at;
        brings = brings terms.limits x.received at;
        first = first terms.limits x.received at;
        all = all;
        idle = idle;
        closed = shut;
        same = same;
        silent = silent;
        open_yet = open_yet;
      }
