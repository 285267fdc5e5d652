-- Looking back is by positions.
use Rattle.std.proofs.Common.{◌≡◌, ℕ, Bool, true, false, cond, List, [], ◌∷◌, ◌++◌, Option, Some, None, refl, sym, ap, ◌∙◌, inl, inr, append_assoc}
use Rattle.std.specs.Option.{option_map}
use Rattle.std.proofs.lemmas.List.{append-nil}
use Rattle.giop_frames.specs.declared.partial.Key.{Key}
use Rattle.giop_frames.specs.declared.reassembly.Role.{Role}
use Rattle.giop_frames.specs.declared.reassembly.Role.TheVariants.{Opens, Carries, Ends, Drops, Uncut, Apart}
use Rattle.giop_frames.specs.Frames.{Frame}
use Rattle.giop_frames.specs.Fragments.{Partial, after_role, cancels, continued_by, id_of, key_of, opened_by, partial_of, payload_of, role_of}
use Rattle.giop_frames.specs.Laws.{PartialByPosition, ByPositionIsPartial}
use Rattle.giop_frames.specs.Positions.{IsPartial, IsUnbroken, breaks, payload_by, payloads_in, so_far}
use Rattle.giop_frames.proofs.Tables.{carries-other, carries-same, ends-other, opens-other, opens-same, partial-role}
use Rattle.giop_frames.proofs.Deciding.{test_key}

some-is : (p q : Partial) → Some p ≡ Some q → p ≡ q
some-is p q e = cc

-- octets of a Fragment more, or none
abbrev more_of : Partial → List ℕ → Partial
more_of p more = record p { octets = p.octets ++ more }

more-none : (p : Partial) → more_of p [] ≡ p
more-none p = ap (λ (x : List ℕ). record p { octets = x }) (append-nil p.octets)

so-far-more : (k : Key) (first f : Frame) (later : List Frame) (r : Role) (more : List ℕ) → role_of f.header ≡ r → payload_by r k f ≡ more → so_far k first (f ∷ later) ≡ more_of (so_far k first later) more
so-far-more k first f later r more is by =
    let payload : payload_by (role_of f.header) k f ≡ more = ap (λ (x : Role). payload_by x k f) is ∙ by in
    ap (λ (x : List ℕ). record { header = first.header; octets = first.octets ++ (payloads_in k later ++ x) }) payload
    ∙ ap (λ (x : List ℕ). record { header = first.header; octets = x }) (sym (append_assoc first.octets (payloads_in k later) more))

-- one frame more, which leaves the message or carries it on
further : (f : Frame) (h : List Frame) (k : Key) (p q : Partial) (r : Role) (more : List ℕ) → role_of f.header ≡ r → breaks r k f q ≡ false → payload_by r k f ≡ more → p ≡ more_of q more → (b : IsPartial h k q) → IsPartial (f ∷ h) k p
further f h k p q r more is keeps by says b = record {
  later = f ∷ b.later;
  first = b.first;
  before = b.before;
  parts = ap (λ (fs : List Frame). f ∷ fs) b.parts;
  key = b.key;
  opens = b.opens;
  unbroken = (ap (λ (x : Role). breaks x k f (so_far k b.first b.later)) is ∙ ap (breaks r k f) (sym b.says) ∙ keeps, b.unbroken);
  says = says ∙ ap (λ (x : Partial). more_of x more) b.says ∙ sym (so-far-more k b.first f b.later r more is by);
}

kept : (p : Partial) → p ≡ more_of p []
kept p = sym (more-none p)

mapped : (f : Frame) (o : Option Partial) (p : Partial) → option_map (continued_by f) o ≡ Some p → (q : Partial) × (o ≡ Some q) × (p ≡ continued_by f q)
mapped f None p e = absurd cc
mapped f (Some q) p e = (q, refl, sym (some-is (continued_by f q) p e))

-- what a CancelRequest left was not cancelled
uncancelled-was : (f : Frame) (k : Key) (o : Option Partial) (p : Partial) → after_role Drops f k o ≡ Some p → (o ≡ Some p) × (cancels (id_of f) k p ≡ false)
uncancelled-was f k None p e = absurd cc
uncancelled-was f k (Some q) p e = by (cancels (id_of f) k q) refl e
  where
    by : (b : Bool) → cancels (id_of f) k q ≡ b → cond b None (Some q) ≡ Some p → (Some q ≡ Some p) × (cancels (id_of f) k p ≡ false)
    by true is e = absurd cc
    by false is e = (e, ap (cancels (id_of f) k) (sym (some-is q p e)) ∙ is)

by-role : (f : Frame) (h : List Frame) (k : Key) (p : Partial) (r : Role) → role_of f.header ≡ r → after_role r f k (partial_of h k) ≡ Some p → ((q : Partial) → partial_of h k ≡ Some q → IsPartial h k q) → IsPartial (f ∷ h) k p
by-role f h k p Opens is e before =
    elim (test_key (key_of f) k) [
      | inl t ↦ record {
        later = [];
        first = f;
        before = h;
        parts = refl;
        key = t.1;
        opens = is;
        unbroken = tt;
        says = sym (some-is (opened_by f) p (sym (opens-same f k (partial_of h k) t.1) ∙ e)) ∙ sym (more-none (opened_by f));
      }
      | inr t ↦ further f h k p p Opens [] is t.0 refl (kept p) (before p (sym (opens-other f k (partial_of h k) t.1) ∙ e))
    ]
by-role f h k p Carries is e before =
    elim (test_key (key_of f) k) [
      | inl t ↦
          let m = mapped f (partial_of h k) p (sym (carries-same f k (partial_of h k) t.1) ∙ e) in
          further f h k p m.0 Carries (payload_of f) is refl (rw t.0 refl) m.2 (before m.0 m.1)
      | inr t ↦ further f h k p p Carries [] is refl (rw t.0 refl) (kept p) (before p (sym (carries-other f k (partial_of h k) t.1) ∙ e))
    ]
by-role f h k p Ends is e before =
    elim (test_key (key_of f) k) [
      | inl t ↦ absurd (let none : after_role Ends f k (partial_of h k) ≡ None = rw t.0 refl in cc)
      | inr t ↦ further f h k p p Ends [] is t.0 refl (kept p) (before p (sym (ends-other f k (partial_of h k) t.1) ∙ e))
    ]
by-role f h k p Drops is e before = let was = uncancelled-was f k (partial_of h k) p e in further f h k p p Drops [] is was.1 refl (kept p) (before p was.0)
by-role f h k p Uncut is e before = further f h k p p Uncut [] is refl refl (kept p) (before p e)
by-role f h k p Apart is e before = further f h k p p Apart [] is refl refl (kept p) (before p e)

pub begun_found : PartialByPosition
begun_found [] k p e = absurd cc
begun_found (f ∷ h) k p e = by-role f h k p (role_of f.header) refl e (λ q was. begun_found h k q was)

stays : (f first : Frame) (k : Key) (later : List Frame) (r : Role) → role_of f.header ≡ r → breaks r k f (so_far k first later) ≡ false → after_role r f k (Some (so_far k first later)) ≡ Some (so_far k first (f ∷ later))
stays f first k later Opens is b = rw b (ap (λ (x : Partial). Some x) (kept (so_far k first later) ∙ sym (so-far-more k first f later Opens [] is refl)))
stays f first k later Carries is b =
    elim (test_key (key_of f) k) [
      | inl t ↦ carries-same f k (Some (so_far k first later)) t.1 ∙ ap (λ (x : Partial). Some x) (sym (so-far-more k first f later Carries (payload_of f) is (rw t.0 refl)))
      | inr t ↦ carries-other f k (Some (so_far k first later)) t.1 ∙ ap (λ (x : Partial). Some x) (kept (so_far k first later) ∙ sym (so-far-more k first f later Carries [] is (rw t.0 refl)))
    ]
stays f first k later Ends is b = rw b (ap (λ (x : Partial). Some x) (kept (so_far k first later) ∙ sym (so-far-more k first f later Ends [] is refl)))
stays f first k later Drops is b = rw b (ap (λ (x : Partial). Some x) (kept (so_far k first later) ∙ sym (so-far-more k first f later Drops [] is refl)))
stays f first k later Uncut is b = ap (λ (x : Partial). Some x) (kept (so_far k first later) ∙ sym (so-far-more k first f later Uncut [] is refl))
stays f first k later Apart is b = ap (λ (x : Partial). Some x) (kept (so_far k first later) ∙ sym (so-far-more k first f later Apart [] is refl))

partial-only : (later : List Frame) (first : Frame) (before : List Frame) (k : Key) → key_of first ≡ k → role_of first.header ≡ Opens → IsUnbroken k first later → partial_of (later ++ first ∷ before) k ≡ Some (so_far k first later)
partial-only [] first before k e is u = partial-role first before k Opens is ∙ opens-same first k (partial_of before k) e ∙ ap (λ (x : Partial). Some x) (sym (more-none (opened_by first)))
partial-only (f ∷ later) first before k e is u = ap (after_role (role_of f.header) f k) (partial-only later first before k e is u.1) ∙ stays f first k later (role_of f.header) refl u.0

pub begun_only : ByPositionIsPartial
begun_only h k p b = ap (λ (fs : List Frame). partial_of fs k) b.parts ∙ partial-only b.later b.first b.before k b.key b.opens b.unbroken ∙ ap (λ (x : Partial). Some x) (sym b.says)
