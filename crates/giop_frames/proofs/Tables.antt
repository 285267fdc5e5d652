-- A list of partial messages, as frames come.
use Rattle.std.proofs.Common.{◌≡◌, ℕ, ◌+◌, ◌≢◌, ◌&&◌, nat_lt, not, Bool, true, false, cond, List, [], ◌∷◌, ◌++◌, length, Option, Some, None, is_some, refl, sym, ap, ◌∙◌, inl, inr, arith, length-append}
use Rattle.std.specs.Option.{option_map}
use Rattle.giop_frames.specs.declared.fault.StreamFault.{StreamFault}
use Rattle.giop_frames.specs.declared.limits.Limits.{Limits}
use Rattle.giop_frames.specs.declared.partial.Key.{Key}
use Rattle.giop_frames.specs.declared.partial.Key.TheVariants.{Of11, Of12}
use Rattle.giop_frames.specs.declared.reassembly.Role.{Role}
use Rattle.giop_frames.specs.declared.reassembly.Role.TheVariants.{Opens, Carries, Ends, Drops, Uncut, Apart}
use Rattle.giop_frames.specs.Frames.{Frame}
use Rattle.giop_frames.specs.Fragments.{Partial, Verdict, Bad, after_role, partial_of, opened_by, continued_by, id_of, is_cancelled, key_of, less_if, may_come, judged, judged_as, judged_by, joinable, judged_carried, partials_after, partials_in, role_of, has_id}
use Rattle.giop_frames.specs.Refusing.{IsFine}
use Rattle.giop_frames.specs.Streams.{IsDistinct, Entry, part_in}
use Rattle.giop_frames.specs.Private.{parts_after, parts_as, uncancelled, without}
use Rattle.giop_frames.specs.Streams.{Follows}
use Rattle.giop_frames.proofs.Deciding.{test_eq, test_key}

-- the table as a list

pub head-same : (p : Entry) (ps : List Entry) (i : Key) → p.key ≡ i → part_in (p ∷ ps) i ≡ Some p.part
head-same p ps i e = elim (test_key p.key i) [ inl t ↦ rw t.0 refl | inr t ↦ absurd (t.1 e) ]

pub head-other : (p : Entry) (ps : List Entry) (i : Key) → p.key ≢ i → part_in (p ∷ ps) i ≡ part_in ps i
head-other p ps i e = elim (test_key p.key i) [ inl t ↦ absurd (e t.1) | inr t ↦ rw t.0 refl ]

pub without-same : (i : Key) (p : Entry) (ps : List Entry) → p.key ≡ i → without i (p ∷ ps) ≡ ps
without-same i p ps e = elim (test_key p.key i) [ inl t ↦ rw t.0 refl | inr t ↦ absurd (t.1 e) ]

pub without-other : (i : Key) (p : Entry) (ps : List Entry) → p.key ≢ i → without i (p ∷ ps) ≡ p ∷ without i ps
without-other i p ps e = elim (test_key p.key i) [ inl t ↦ absurd (e t.1) | inr t ↦ rw t.0 refl ]

pub part_in-without_same : (i : Key) (ps : List Entry) → IsDistinct ps → part_in (without i ps) i ≡ None
part_in-without_same i [] d = refl
part_in-without_same i (p ∷ ps) d =
    elim (test_key p.key i) [
      | inl t ↦ ap (λ (qs : List Entry). part_in qs i) (without-same i p ps t.1) ∙ ap (part_in ps) (sym t.1) ∙ d.0
      | inr t ↦ ap (λ (qs : List Entry). part_in qs i) (without-other i p ps t.1) ∙ head-other p (without i ps) i t.1 ∙ part_in-without_same i ps d.1
    ]

pub part_in-without_other : (i j : Key) (ps : List Entry) → i ≢ j → part_in (without i ps) j ≡ part_in ps j
part_in-without_other i j [] n = refl
part_in-without_other i j (p ∷ ps) n =
    elim (test_key p.key i) [
      | inl t ↦ ap (λ (qs : List Entry). part_in qs j) (without-same i p ps t.1) ∙ sym (head-other p ps j (λ e. n (sym t.1 ∙ e)))
      | inr t ↦
          let left = ap (λ (qs : List Entry). part_in qs j) (without-other i p ps t.1) in
          elim (test_key p.key j) [
            | inl u ↦ left ∙ head-same p (without i ps) j u.1 ∙ sym (head-same p ps j u.1)
            | inr u ↦ left ∙ head-other p (without i ps) j u.1 ∙ part_in-without_other i j ps n ∙ sym (head-other p ps j u.1)
          ]
    ]

pub part_in-push_same : (ps : List Entry) (q : Entry) (i : Key) → q.key ≡ i → part_in ps i ≡ None → part_in (ps ++ q ∷ []) i ≡ Some q.part
part_in-push_same [] q i e n = head-same q [] i e
part_in-push_same (p ∷ ps) q i e n =
    elim (test_key p.key i) [
      | inl t ↦ absurd (let k = head-same p ps i t.1 in cc)
      | inr t ↦ head-other p (ps ++ q ∷ []) i t.1 ∙ part_in-push_same ps q i e (sym (head-other p ps i t.1) ∙ n)
    ]

pub part_in-push_other : (ps : List Entry) (q : Entry) (i : Key) → q.key ≢ i → part_in (ps ++ q ∷ []) i ≡ part_in ps i
part_in-push_other [] q i n = head-other q [] i n
part_in-push_other (p ∷ ps) q i n =
    elim (test_key p.key i) [
      | inl t ↦ head-same p (ps ++ q ∷ []) i t.1 ∙ sym (head-same p ps i t.1)
      | inr t ↦ head-other p (ps ++ q ∷ []) i t.1 ∙ part_in-push_other ps q i n ∙ sym (head-other p ps i t.1)
    ]

pub distinct-without : (i : Key) (ps : List Entry) → IsDistinct ps → IsDistinct (without i ps)
distinct-without i [] d = d
distinct-without i (p ∷ ps) d =
    elim (test_key p.key i) [
      | inl t ↦ rw (without-same i p ps t.1) d.1
      | inr t ↦ let other : i ≢ p.key = λ e. t.1 (sym e) in rw (without-other i p ps t.1) (part_in-without_other i p.key ps other ∙ d.0, distinct-without i ps d.1)
    ]

pub distinct-push : (ps : List Entry) (q : Entry) → IsDistinct ps → part_in ps q.key ≡ None → IsDistinct (ps ++ q ∷ [])
distinct-push [] q d n = (refl, tt)
distinct-push (p ∷ ps) q d n =
    elim (test_key p.key q.key) [
      | inl t ↦ absurd (let k = head-same p ps q.key t.1 in cc)
      | inr t ↦
          let other : q.key ≢ p.key = λ e. t.1 (sym e) in
          (part_in-push_other ps q p.key other ∙ d.0, distinct-push ps q d.1 (sym (head-other p ps q.key t.1) ∙ n))
    ]

pub length-without : (i : Key) (ps : List Entry) (q : Partial) → part_in ps i ≡ Some q → length (without i ps) + 1 ≡ length ps
length-without i [] q e = absurd cc
length-without i (p ∷ ps) q e =
    elim (test_key p.key i) [
      | inl t ↦ omega (arith, ap length (without-same i p ps t.1))
      | inr t ↦ omega (arith, ap length (without-other i p ps t.1), length-without i ps q (sym (head-other p ps i t.1) ∙ e))
    ]

pub without-none : (i : Key) (ps : List Entry) → part_in ps i ≡ None → without i ps ≡ ps
without-none i [] n = refl
without-none i (p ∷ ps) n =
    elim (test_key p.key i) [
      | inl t ↦ absurd (let k = head-same p ps i t.1 in cc)
      | inr t ↦ without-other i p ps t.1 ∙ ap (λ (qs : List Entry). p ∷ qs) (without-none i ps (sym (head-other p ps i t.1) ∙ n))
    ]

-- looking back one frame

pub partial-role : (f : Frame) (h : List Frame) (k : Key) (r : Role) → role_of f.header ≡ r → partial_of (f ∷ h) k ≡ after_role r f k (partial_of h k)
partial-role f h k r is = rw is refl

pub partials-step : (f : Frame) (h : List Frame) (r : Role) → role_of f.header ≡ r → partials_in (f ∷ h) ≡ partials_after r f (partial_of h) (partials_in h)
partials-step f h r is = rw is refl

-- at its own key, and at others
module _ (f : Frame) (k : Key) (before : Option Partial) where
  pub opens-same : key_of f ≡ k → after_role Opens f k before ≡ Some (opened_by f)
  opens-same e = elim (test_key (key_of f) k) [ inl t ↦ rw t.0 refl | inr t ↦ absurd (t.1 e) ]

  pub carries-same : key_of f ≡ k → after_role Carries f k before ≡ option_map (continued_by f) before
  carries-same e = elim (test_key (key_of f) k) [ inl t ↦ rw t.0 refl | inr t ↦ absurd (t.1 e) ]

  pub ends-same : key_of f ≡ k → after_role Ends f k before ≡ None
  ends-same e = elim (test_key (key_of f) k) [ inl t ↦ rw t.0 refl | inr t ↦ absurd (t.1 e) ]

  pub opens-other : key_of f ≢ k → after_role Opens f k before ≡ before
  opens-other n = elim (test_key (key_of f) k) [ inl t ↦ absurd (n t.1) | inr t ↦ rw t.0 refl ]

  pub carries-other : key_of f ≢ k → after_role Carries f k before ≡ before
  carries-other n = elim (test_key (key_of f) k) [ inl t ↦ absurd (n t.1) | inr t ↦ rw t.0 refl ]

  pub ends-other : key_of f ≢ k → after_role Ends f k before ≡ before
  ends-other n = elim (test_key (key_of f) k) [ inl t ↦ absurd (n t.1) | inr t ↦ rw t.0 refl ]

-- what a CancelRequest leaves of a table

abbrev left_of : ℕ → Key → Option Partial → Option Partial
left_of i k before = cond (is_cancelled i k before) None before

less-count : (k : Key) (ps : List Entry) (o : Option Partial) → part_in ps k ≡ o → length (without k ps) ≡ less_if (is_some o) (length ps)
less-count k ps None e = ap length (without-none k ps e)
less-count k ps (Some p) e = omega (arith, length-without k ps p e)

cancelled-some : (i : ℕ) (k : Key) (o : Option Partial) → is_cancelled i k o ≡ true → is_some o ≡ true
cancelled-some i k None e = absurd cc
cancelled-some i k (Some p) e = refl

left-own : (i j : ℕ) (o : Option Partial) → i ≡ j → left_of i (Of12 j) o ≡ None
left-own i j None e = refl
left-own i j (Some p) e = elim (test_eq i j) [ inl t ↦ rw t.0 refl | inr t ↦ absurd (t.1 e) ]

left-other : (i j : ℕ) (o : Option Partial) → i ≢ j → left_of i (Of12 j) o ≡ o
left-other i j None n = refl
left-other i j (Some p) n = elim (test_eq i j) [ inl t ↦ absurd (n t.1) | inr t ↦ rw t.0 refl ]

early-in : (b : Bool) (qs : List Entry) → IsDistinct qs → part_in (cond b (without Of11 qs) qs) Of11 ≡ cond b None (part_in qs Of11)
early-in true qs d = part_in-without_same Of11 qs d
early-in false qs d = refl

early-other : (b : Bool) (qs : List Entry) (j : ℕ) → part_in (cond b (without Of11 qs) qs) (Of12 j) ≡ part_in qs (Of12 j)
early-other true qs j = part_in-without_other Of11 (Of12 j) qs (λ e. absurd cc)
early-other false qs j = refl

early-distinct : (b : Bool) (qs : List Entry) → IsDistinct qs → IsDistinct (cond b (without Of11 qs) qs)
early-distinct true qs d = distinct-without Of11 qs d
early-distinct false qs d = d

early-count : (b : Bool) (qs : List Entry) → (b ≡ true → is_some (part_in qs Of11) ≡ true) → length (cond b (without Of11 qs) qs) ≡ less_if b (length qs)
early-count true qs some = less-count Of11 qs (part_in qs Of11) refl ∙ ap (λ (b : Bool). less_if b (length qs)) (some refl)
early-count false qs some = refl

module _ (i : ℕ) (ps : List Entry) (d : IsDistinct ps) where
  own-early : part_in (without (Of12 i) ps) Of11 ≡ part_in ps Of11
  own-early = part_in-without_other (Of12 i) Of11 ps (λ e. absurd cc)

  pub uncancelled-in : (k : Key) → part_in (uncancelled i ps) k ≡ left_of i k (part_in ps k)
  uncancelled-in Of11 = early-in (is_cancelled i Of11 (part_in (without (Of12 i) ps) Of11)) (without (Of12 i) ps) (distinct-without (Of12 i) ps d) ∙ ap (left_of i Of11) own-early
  uncancelled-in (Of12 j) =
      early-other (is_cancelled i Of11 (part_in (without (Of12 i) ps) Of11)) (without (Of12 i) ps) j
      ∙ elim (test_eq i j) [
        | inl t ↦ ap (λ (n : ℕ). part_in (without (Of12 i) ps) (Of12 n)) (sym t.1) ∙ part_in-without_same (Of12 i) ps d ∙ sym (left-own i j (part_in ps (Of12 j)) t.1)
        | inr t ↦ part_in-without_other (Of12 i) (Of12 j) ps (λ e. t.1 cc) ∙ sym (left-other i j (part_in ps (Of12 j)) t.1)
      ]

  pub uncancelled-count : length (uncancelled i ps) ≡ less_if (is_cancelled i Of11 (part_in ps Of11)) (less_if (is_some (part_in ps (Of12 i))) (length ps))
  uncancelled-count =
      early-count (is_cancelled i Of11 (part_in (without (Of12 i) ps) Of11)) (without (Of12 i) ps) (cancelled-some i Of11 (part_in (without (Of12 i) ps) Of11))
      ∙ ap (λ (o : Option Partial). less_if (is_cancelled i Of11 o) (length (without (Of12 i) ps))) own-early
      ∙ ap (less_if (is_cancelled i Of11 (part_in ps Of11))) (less-count (Of12 i) ps (part_in ps (Of12 i)) refl)

  pub uncancelled-distinct : IsDistinct (uncancelled i ps)
  uncancelled-distinct = early-distinct (is_cancelled i Of11 (part_in (without (Of12 i) ps) Of11)) (without (Of12 i) ps) (distinct-without (Of12 i) ps d)

-- a judgement that is no fault

fine-cond : (b : Bool) (e : StreamFault) (v : Verdict) → IsFine (cond b (Bad e) v) → (b ≡ false) × IsFine v
fine-cond true e v fine = absurd fine
fine-cond false e v fine = (refl, fine)

fine-new : (b : Bool) (e : StreamFault) (v : Verdict) → IsFine (cond b (Bad e) v) → b ≡ false
fine-new b e v fine = (fine-cond b e v fine).0

pub none-is : {A : Type 0} → (o : Option A) → is_some o ≡ false → o ≡ None
none-is None e = refl
none-is (Some x) e = absurd cc

fine-carried : (limits : Limits) (f : Frame) (before : Option Partial) → IsFine (judged_carried (joinable limits f before)) → (p : Partial) × (before ≡ Some p)
fine-carried limits f None fine = absurd fine
fine-carried limits f (Some p) fine = (p, refl)

-- the table and the history give one judgement
pub judged-follows : (limits : Limits) (ps : List Entry) (h : List Frame) (f : Frame) → Follows ps h → judged_by limits (part_in ps Of11) (part_in ps (key_of f)) (length ps) f ≡ judged limits h f
judged-follows limits ps h f w = rw (w.each Of11, w.each (key_of f), w.count) refl

module _ (ps : List Entry) (h : List Frame) (f : Frame) (w : Follows ps h) where
  -- a table that has for the frame's key what its role leaves, and for all others what it had
  by_key : (r : Role) (qs : List Entry) → role_of f.header ≡ r → part_in qs (key_of f) ≡ after_role r f (key_of f) (partial_of h (key_of f)) → ((k : Key) → key_of f ≢ k → part_in qs k ≡ part_in ps k)
      → ((k : Key) → key_of f ≢ k → after_role r f k (partial_of h k) ≡ partial_of h k) → (k : Key) → part_in qs k ≡ partial_of (f ∷ h) k
  by_key r qs is same other leaves k =
      elim (test_key (key_of f) k) [
        | inl t ↦ ap (part_in qs) (sym t.1) ∙ same ∙ ap (λ (j : Key). after_role r f j (partial_of h j)) t.1 ∙ sym (partial-role f h k r is)
        | inr t ↦ other k t.1 ∙ w.each k ∙ sym (leaves k t.1) ∙ sym (partial-role f h k r is)
      ]

  -- the same table, where the role leaves what there was
  by_none : (r : Role) → role_of f.header ≡ r → ((k : Key) (o : Option Partial) → after_role r f k o ≡ o) → ((before : Key → Option Partial) (n : ℕ) → partials_after r f before n ≡ n) → Follows ps (f ∷ h)
  by_none r is same count = record {
    each = λ k. w.each k ∙ sym (same k (partial_of h k)) ∙ sym (partial-role f h k r is);
    count = w.count ∙ sym (partials-step f h r is ∙ count (partial_of h) (partials_in h));
    distinct = w.distinct;
  }

  by_opening : role_of f.header ≡ Opens → part_in ps (key_of f) ≡ None → Follows (ps ++ record { key = key_of f; part = opened_by f } ∷ []) (f ∷ h)
  by_opening is new =
      let q : Entry = record { key = key_of f; part = opened_by f } in
      record {
        each = by_key Opens (ps ++ q ∷ []) is (part_in-push_same ps q (key_of f) refl new ∙ sym (opens-same f (key_of f) (partial_of h (key_of f)) refl)) (λ k n. part_in-push_other ps q k n) (λ k n. opens-other f k (partial_of h k) n);
        count = length-append ps (q ∷ []) ∙ ap (λ n. n + 1) w.count ∙ sym (partials-step f h Opens is);
        distinct = distinct-push ps q w.distinct new;
      }

  -- without the frame's key
  by_ending : role_of f.header ≡ Ends → Follows (without (key_of f) ps) (f ∷ h)
  by_ending is = record {
    each = by_key Ends (without (key_of f) ps) is (part_in-without_same (key_of f) ps w.distinct ∙ sym (ends-same f (key_of f) (partial_of h (key_of f)) refl)) (λ k n. part_in-without_other (key_of f) k ps n) (λ k n. ends-other f k (partial_of h k) n);
    count =
        less-count (key_of f) ps (partial_of h (key_of f)) (w.each (key_of f)) ∙ ap (less_if (is_some (partial_of h (key_of f)))) w.count
        ∙ sym (partials-step f h Ends is);
    distinct = distinct-without (key_of f) ps w.distinct;
  }

  by_dropping : role_of f.header ≡ Drops → Follows (uncancelled (id_of f) ps) (f ∷ h)
  by_dropping is = record {
    each = λ k. uncancelled-in (id_of f) ps w.distinct k ∙ ap (left_of (id_of f) k) (w.each k) ∙ sym (partial-role f h k Drops is);
    count =
        uncancelled-count (id_of f) ps w.distinct ∙ ap (λ (o : Option Partial). less_if (is_cancelled (id_of f) Of11 o) (less_if (is_some (part_in ps (Of12 (id_of f)))) (length ps))) (w.each Of11)
        ∙ ap (λ (o : Option Partial). less_if (is_cancelled (id_of f) Of11 (partial_of h Of11)) (less_if (is_some o) (length ps))) (w.each (Of12 (id_of f)))
        ∙ ap (λ (n : ℕ). less_if (is_cancelled (id_of f) Of11 (partial_of h Of11)) (less_if (is_some (partial_of h (Of12 (id_of f)))) n)) w.count ∙ sym (partials-step f h Drops is);
    distinct = uncancelled-distinct (id_of f) ps w.distinct;
  }

  by_carrying : role_of f.header ≡ Carries → (p : Partial) → part_in ps (key_of f) ≡ Some p → Follows (without (key_of f) ps ++ record { key = key_of f; part = continued_by f p } ∷ []) (f ∷ h)
  by_carrying is p e =
      let q : Entry = record { key = key_of f; part = continued_by f p } in
      let gone = part_in-without_same (key_of f) ps w.distinct in
      let was : partial_of h (key_of f) ≡ Some p = sym (w.each (key_of f)) ∙ e in
      record {
        each = by_key Carries (without (key_of f) ps ++ q ∷ []) is
            (part_in-push_same (without (key_of f) ps) q (key_of f) refl gone ∙ sym (ap (option_map (continued_by f)) was) ∙ sym (carries-same f (key_of f) (partial_of h (key_of f)) refl))
            (λ k n. part_in-push_other (without (key_of f) ps) q k n ∙ part_in-without_other (key_of f) k ps n) (λ k n. carries-other f k (partial_of h k) n);
        count = length-append (without (key_of f) ps) (q ∷ []) ∙ length-without (key_of f) ps p e ∙ w.count ∙ sym (partials-step f h Carries is);
        distinct = distinct-push (without (key_of f) ps) q (distinct-without (key_of f) ps w.distinct) gone;
      }

  by_role : (limits : Limits) (r : Role) → role_of f.header ≡ r → IsFine (judged_as r limits (part_in ps (key_of f)) (length ps) f) → Follows (parts_as r ps f) (f ∷ h)
  unfolding parts_as judged_as
  by_role limits Opens is fine = by_opening is (none-is (part_in ps (key_of f)) (fine-new (is_some (part_in ps (key_of f))) _ _ fine))
  by_role limits Carries is fine = let had = fine-carried limits f (part_in ps (key_of f)) fine in rw had.1 (by_carrying is had.0 had.1)
  by_role limits Ends is fine = by_ending is
  by_role limits Drops is fine = by_dropping is
  by_role limits Uncut is fine = by_none Uncut is (λ k o. refl) (λ b n. refl)
  by_role limits Apart is fine = by_none Apart is (λ k o. refl) (λ b n. refl)

-- the judgement of a frame's role, which is fine where that of the frame is
pub fine-as : (limits : Limits) (early before : Option Partial) (n : ℕ) (f : Frame) → IsFine (judged_by limits early before n f) → IsFine (judged_as (role_of f.header) limits before n f)
unfolding judged_by
fine-as limits early before n f fine =
    let later = fine-cond (not (may_come (role_of f.header) f.header.version) && is_some early) _ _ fine in
    (fine-cond (has_id (role_of f.header) f.header.version && nat_lt (length f.octets) 4) _ (judged_as (role_of f.header) limits before n f) later.1).1

-- a frame that isn't refused keeps table and history together
pub follows-step : (limits : Limits) (ps : List Entry) (h : List Frame) (f : Frame) → Follows ps h → IsFine (judged_by limits (part_in ps Of11) (part_in ps (key_of f)) (length ps) f) → Follows (parts_after ps f) (f ∷ h)
follows-step limits ps h f w fine = by_role ps h f w limits (role_of f.header) refl (fine-as limits (part_in ps Of11) (part_in ps (key_of f)) (length ps) f fine)
