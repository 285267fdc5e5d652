-- However octets are cut, a client comes to the same: what is under the loop of `FtClient::feed`.
use Rattle.std.proofs.Common.{◌≡◌, ℕ, Bool, true, false, List, [], ◌∷◌, ◌++◌, drop, length, Option, Some, None, refl, sym, ap, ◌∙◌, append_assoc}
use Rattle.std.proofs.lemmas.List.{drop_at}
use Rattle.giop_core.specs.Content.{Rest}
use Rattle.giop_link.specs.Hearing.{Ending, Hearing, news}
use Rattle.ft_client.specs.Clients.{Client, Ended, Linked, answered, completed_if, ended_by, ending_of, fed_on, is_kept, led_by, parted, parted_at, settled, settled_all, told_of, waiting}
use Rattle.ft_client.specs.Messages.{Answer, located, replied}

-- more octets never take back what was heard; an ending stays, and nothing is heard after it
pub record IsSteady {H : Type 0} (by : Hearing H) : Type 0 where
  pub grows : (s c : List ℕ) → (more : List H) × (by.heard (s ++ c) ≡ by.heard s ++ more)
  pub stays : (s c : List ℕ) (e : Ending) → by.ending s ≡ Some e → by.ending (s ++ c) ≡ Some e
  pub silent : (s c : List ℕ) (e : Ending) → by.ending s ≡ Some e → by.heard (s ++ c) ≡ by.heard s

module _ {H : Type 0} (by : Hearing H) where
  pub news-is : (s c : List ℕ) (more : List H) → by.heard (s ++ c) ≡ by.heard s ++ more → news by s c ≡ more
  news-is s c more is = ap (λ (xs : List H). drop (length (by.heard s)) xs) is ∙ drop_at (by.heard s) more (length (by.heard s)) refl

  -- octets bring what their parts bring
  pub news-append : ((s c : List ℕ) → (more : List H) × (by.heard (s ++ c) ≡ by.heard s ++ more)) → (s a b : List ℕ) → news by s (a ++ b) ≡ news by s a ++ news by (s ++ a) b
  news-append grows s a b =
      let first = grows s a in
      let rest = grows (s ++ a) b in
      let all : by.heard (s ++ (a ++ b)) ≡ by.heard s ++ (first.0 ++ rest.0) =
      ap by.heard (sym (append_assoc s a b)) ∙ rest.1 ∙ ap (λ (xs : List H). xs ++ rest.0) first.1 ∙ append_assoc (by.heard s) first.0 rest.0 in
      news-is s (a ++ b) (first.0 ++ rest.0) all ∙ sym (λ i. news-is s a first.0 first.1 i ++ news-is (s ++ a) b rest.0 rest.1 i)

  -- after the end they bring nothing more
  pub news-silent : IsSteady by → (s a b : List ℕ) (e : Ending) → by.ending (s ++ a) ≡ Some e → news by s (a ++ b) ≡ news by s a
  news-silent steady s a b e ended = ap (λ (xs : List H). drop (length (by.heard s)) xs) (ap by.heard (sym (append_assoc s a b)) ∙ steady.silent (s ++ a) b e ended)

-- Answers, one after another.

pub settled_all-append : (xs ys : List Answer) (m : Client) → settled_all (xs ++ ys) m ≡ settled_all ys (settled_all xs m)
settled_all-append [] ys m = refl
settled_all-append (x ∷ xs) ys m = settled_all-append xs ys (settled x m)

-- they are the same to a client with another link
completed_if-link : (o : Option ℕ) (e : Ended) (m : Client) (l : Option Linked) → completed_if o e (record m { link = l }) ≡ record (completed_if o e m) { link = l }
completed_if-link None e m l = refl
completed_if-link (Some id) e m l = refl

answered-link : (keeps : Bool) (i : ℕ) (led : Option Rest) (e : Ended) (m : Client) (l : Option Linked) → answered keeps i led e (record m { link = l }) ≡ record (answered keeps i led e m) { link = l }
answered-link true i led e m l = refl
answered-link false i led e m l = completed_if-link (waiting i m.pending) e m l

settled-link : (a : Answer) (m : Client) (l : Option Linked) → settled a (record m { link = l }) ≡ record (settled a m) { link = l }
settled-link (replied i shown) m l = answered-link (is_kept shown m) i (led_by shown) (ended_by shown) m l
settled-link (located i shown) m l = refl

pub settled_all-link : (xs : List Answer) (m : Client) (l : Option Linked) → settled_all xs (record m { link = l }) ≡ record (settled_all xs m) { link = l }
settled_all-link [] m l = refl
settled_all-link (x ∷ xs) m l = ap (settled_all xs) (settled-link x m l) ∙ settled_all-link xs (settled x m) l

-- Octets.

module _ (by : Hearing Answer) where
  -- the link after octets has received them
  abbrev pub longer_by : List ℕ → Linked → Linked
  longer_by octets l = record l { received = l.received ++ octets }

  pub told-is : (octets : List ℕ) (m : Client) (l : Linked) → told_of by octets m (Some l) ≡ record (settled_all (news by l.received octets) m) { link = Some (longer_by octets l) }
  told-is octets m l = settled_all-link (news by l.received octets) m (Some (longer_by octets l))

  pub told-link : (octets : List ℕ) (m : Client) (l : Linked) → (told_of by octets m (Some l)).link ≡ Some (longer_by octets l)
  told-link octets m l = ap (λ (n : Client). n.link) (told-is octets m l)

  pub told-more : IsSteady by → (a b : List ℕ) (m : Client) (l : Linked) → told_of by (a ++ b) m (Some l) ≡ told_of by b (told_of by a m (Some l)) (Some (longer_by a l))
  told-more steady a b m l =
      let first = news by l.received a in
      let rest = news by (l.received ++ a) b in
      let whole : told_of by (a ++ b) m (Some l) ≡ settled_all rest (record (settled_all first m) { link = Some (longer_by (a ++ b) l) }) =
      ap (λ (xs : List Answer). settled_all xs (record m { link = Some (longer_by (a ++ b) l) })) (news-append by steady.grows l.received a b)
      ∙ settled_all-append first rest (record m { link = Some (longer_by (a ++ b) l) })
      ∙ ap (settled_all rest) (settled_all-link first m (Some (longer_by (a ++ b) l))) in
      let parts : told_of by b (told_of by a m (Some l)) (Some (longer_by a l)) ≡ settled_all rest (record (settled_all first m) { link = Some (longer_by b (longer_by a l)) }) =
      ap (λ (n : Client). settled_all rest (record n { link = Some (longer_by b (longer_by a l)) })) (told-is a m l) in
      whole ∙ ap (λ (o : List ℕ). settled_all rest (record (settled_all first m) { link = Some (record l { received = o }) })) (sym (append_assoc l.received a b)) ∙ sym parts

  pub fed-at : (octets : List ℕ) (m : Client) (l : Linked) → m.link ≡ Some l → fed_on by octets m ≡ parted_at (by.ending (l.received ++ octets)) (told_of by octets m (Some l))
  fed-at octets m l is = ap (λ (x : Option Linked). parted_at (ending_of by octets x) (told_of by octets m x)) is

  -- where the link goes on after the first octets
  pub fed-going : (a : List ℕ) (m : Client) (l : Linked) → m.link ≡ Some l → by.ending (l.received ++ a) ≡ None → fed_on by a m ≡ told_of by a m (Some l)
  fed-going a m l is going = fed-at a m l is ∙ ap (λ (e : Option Ending). parted_at e (told_of by a m (Some l))) going

  pub fed-more : IsSteady by → (a b : List ℕ) (m : Client) (l : Linked) → m.link ≡ Some l → by.ending (l.received ++ a) ≡ None → fed_on by (a ++ b) m ≡ fed_on by b (fed_on by a m)
  fed-more steady a b m l is going =
      let n = told_of by a m (Some l) in
      fed-at (a ++ b) m l is
      ∙ (let whole : l.received ++ (a ++ b) ≡ (l.received ++ a) ++ b = sym (append_assoc l.received a b) in λ i. parted_at (by.ending (whole i)) (told-more steady a b m l i))
      ∙ sym (ap (fed_on by b) (fed-going a m l is going) ∙ fed-at b n (longer_by a l) (told-link a m l))

  -- .. and where it ends there, what comes after counts no more
  pub fed-ended : IsSteady by → (a b : List ℕ) (m : Client) (l : Linked) (e : Ending) → m.link ≡ Some l → by.ending (l.received ++ a) ≡ Some e → fed_on by (a ++ b) m ≡ fed_on by a m
  fed-ended steady a b m l e is ended =
      let ended_too : by.ending (l.received ++ (a ++ b)) ≡ Some e = ap by.ending (sym (append_assoc l.received a b)) ∙ steady.stays (l.received ++ a) b e ended in
      let first = news by l.received a in
      fed-at (a ++ b) m l is
      ∙ (λ i. parted_at (ended_too i) (told_of by (a ++ b) m (Some l)))
      ∙ ap parted (told-is (a ++ b) m l ∙ ap (λ (xs : List Answer). record (settled_all xs m) { link = Some (longer_by (a ++ b) l) }) (news-silent by steady l.received a b e ended))
      ∙ sym (fed-at a m l is ∙ (λ i. parted_at (ended i) (told_of by a m (Some l))) ∙ ap parted (told-is a m l))
