-- What a frame in each role is judged to be, and what it leaves.
use Rattle.std.proofs.Common.{◌≡◌, ℕ, ◌+◌, ◌-◌, ◌<◌, ◌≤◌, ◌&&◌, nat_lt, not, Bool, true, false, cond, List, [], ◌∷◌, ◌++◌, length, drop, Option, Some, is_some, IsTrue, Ok, Err, length-append, refl, sym, ap, subst, ◌∙◌, inl, inr, arith, length-drop}
use Rattle.std.proofs.lemmas.Bool.{le-leb, le-ltb, lt-leb, lt-ltb}
use Rattle.std.proofs.lemmas.List.{drop-append-le, drop-drop, length-map, map-append}
use Rattle.giop_core.specs.declared.header.Header.{Header}
use Rattle.giop_frames.specs.declared.fault.StreamFault.{StreamFault}
use Rattle.giop_frames.specs.declared.fault.StreamFault.TheVariants.{MixedOrder, TooLarge, TooManyPartial, TwiceStarted}
use Rattle.giop_frames.specs.declared.limits.Limits.{Limits}
use Rattle.giop_frames.specs.declared.partial.Key.{Key}
use Rattle.giop_frames.specs.declared.partial.Key.TheVariants.{Of11}
use Rattle.giop_frames.specs.declared.partial.Part.{Part}
use Rattle.giop_frames.specs.declared.reassembly.Role.{Role}
use Rattle.giop_frames.specs.declared.reassembly.Role.TheVariants.{Opens, Carries, Ends, Drops, Uncut, Apart}
use Rattle.giop_frames.specs.declared.reassembly.Settled.{Settled}
use Rattle.giop_frames.specs.declared.reassembly.TakenUp.{TakenUp}
use Rattle.giop_frames.specs.declared.reassembly.Settled.TheVariants.{Quiet as SettledQuiet, Done as SettledDone, Bad as SettledBad}
use Rattle.giop_frames.specs.Frames.{Frame, id_length}
use Rattle.giop_frames.specs.Fragments.{Bad, Partial, Quiet, Verdict, opened_by, content_of, continued_by, payload_of, has_id, id_of, key_of, may_come, is_same_order, joined, judged_as, judged_by, joinable, judged_carried, judged_ended, judged_whole, on_content, role_of, too_short}
use Rattle.giop_frames.specs.Streams.{Entry, part_in}
use Rattle.giop_frames.specs.Private.{parts_as, uncancelled, without}
use Rattle.giop_frames.specs.Private.{IsContinued, IsLeft, IsSettled, IsSettledAs, IsTakenUp, judged_uncut, verdict_at}
use Rattle.giop_frames.specs.Standing.{framed, entry_of, entries}
use Rattle.giop_frames.proofs.Deciding.{test_lt}

-- a part that was found, and parts that were counted

pub partial-at : (id i : Key) (ps qs : List Part) (r : Bool) → qs ≡ ps → id ≡ i → r ≡ is_some (part_in (entries qs) id) → is_some (part_in (entries ps) i) ≡ r
partial-at id i ps qs r e is has = ap (λ (j : Key). is_some (part_in (entries ps) j)) (sym is) ∙ ap (λ (xs : List Part). is_some (part_in (entries xs) id)) (sym e) ∙ sym has

pub keyed : (h : Header) (b x : List ℕ) (k : Key) → x ≡ b → k ≡ key_of (framed h x) → k ≡ key_of (framed h b)
keyed h b x k is e = e ∙ ap (λ (y : List ℕ). key_of (framed h y)) is

pub count-of : (ps : List Part) → length (entries ps) ≡ length ps
count-of ps = length-map ps entry_of

pub entry-is : (p : Part) (k : Key) (q : Partial) → p.key ≡ k → p.header ≡ q.header → drop 12 p.octets.items ≡ q.octets → entry_of p ≡ record { key = k; part = q }
entry-is p k q a b c = rw (a, b, c) refl

-- a first frame

pub opens-twice : (limits : Limits) (before : Option Partial) (n : ℕ) (f : Frame) → is_some before ≡ true → judged_as Opens limits before n f ≡ Bad TwiceStarted
unfolding judged_as
opens-twice limits before n f e = rw e refl

pub opens-too_many : (limits : Limits) (before : Option Partial) (n : ℕ) (f : Frame) → is_some before ≡ false → limits.partials ≤ n → judged_as Opens limits before n f ≡ Bad TooManyPartial
unfolding judged_as
opens-too_many limits before n f e h = rw (e, le-leb limits.partials n h) refl

pub opens-quiet : (limits : Limits) (before : Option Partial) (n : ℕ) (f : Frame) → is_some before ≡ false → n < limits.partials → judged_as Opens limits before n f ≡ Quiet
unfolding judged_as
opens-quiet limits before n f e h = rw (e, lt-leb limits.partials n h) refl

pub opened : (ps qs : List Part) (p : Part) (f : Frame) → qs ≡ ps ++ p ∷ [] → p.key ≡ key_of f → p.header ≡ f.header → drop 12 p.octets.items ≡ f.octets → entries qs ≡ parts_as Opens (entries ps) f
unfolding parts_as
opened ps qs p f e is same octets = ap entries e ∙ map-append entry_of ps (p ∷ []) ∙ ap (λ (q : Entry). entries ps ++ q ∷ []) (entry-is p (key_of f) (opened_by f) is same octets)

-- a Fragment

pub mixed : (limits : Limits) (f : Frame) (p : Partial) → is_same_order p.header.order f.header.order ≡ false → joinable limits f (Some p) ≡ Err MixedOrder
mixed limits f p e = rw e refl

pub too_long : (limits : Limits) (f : Frame) (p : Partial) → is_same_order p.header.order f.header.order ≡ true → limits.message < 12 + length (p.octets ++ payload_of f) → joinable limits f (Some p) ≡ Err TooLarge
too_long limits f p e h = rw (e, lt-ltb limits.message (12 + length (p.octets ++ payload_of f)) h) refl

pub fits : (limits : Limits) (f : Frame) (p : Partial) → is_same_order p.header.order f.header.order ≡ true → 12 + length (p.octets ++ payload_of f) ≤ limits.message → joinable limits f (Some p) ≡ Ok p
fits limits f p e h = rw (e, le-ltb limits.message (12 + length (p.octets ++ payload_of f)) h) refl

pub too-long-at : (limits : Limits) (f : Frame) (ps : List Entry) (q : Part) (more : List ℕ) (id : Key) → id ≡ key_of f → part_in ps id ≡ Some (entry_of q).part → is_same_order q.header.order f.header.order ≡ true → more ≡ payload_of f
    → 12 ≤ length q.octets.items → limits.message < length q.octets.items + length more → joinable limits f (part_in ps (key_of f)) ≡ Err TooLarge
too-long-at limits f ps q more id is had same from long over =
    let there : part_in ps (key_of f) ≡ Some (entry_of q).part = ap (part_in ps) (sym is) ∙ had in
    let octets = drop 12 q.octets.items in
    rw there (too_long limits f (entry_of q).part same (omega (arith, long, over, ap length from, length-append octets (payload_of f), length-drop 12 q.octets.items)))

pub continued : (limits : Limits) (f : Frame) (ps after : List Entry) (p q : Part) (more : List ℕ) (id : Key) → id ≡ key_of f → part_in ps id ≡ Some (entry_of q).part → is_same_order q.header.order f.header.order ≡ true → more ≡ payload_of f
    → 12 ≤ length q.octets.items → length q.octets.items + length more ≤ limits.message → p.key ≡ id → p.header ≡ q.header → p.octets.items ≡ q.octets.items ++ more → after ≡ without id ps → IsContinued p limits f ps after
continued limits f ps after p q more id is had same from long within named headed joins left =
    let octets = drop 12 q.octets.items in
    record {
      before = (entry_of q).part;
      had = ap (part_in ps) (sym is) ∙ had;
      fits = fits limits f (entry_of q).part same (omega (arith, long, within, ap length from, length-append octets (payload_of f), length-drop 12 q.octets.items));
      entry = entry-is p (key_of f) (continued_by f (entry_of q).part) (named ∙ is) headed (ap (drop 12) joins ∙ drop-append-le 12 q.octets.items more long ∙ ap (λ (x : List ℕ). octets ++ x) from);
      others = left ∙ ap (λ (k : Key). without k ps) is;
      within = omega (arith, within, ap length joins, length-append q.octets.items more);
    }

-- the payload after the header and the id
pub payload-at : (h : Header) (b octets : List ℕ) → octets ≡ drop (12 + id_length h.version) b → octets ≡ payload_of (framed h b)
payload-at h b octets e = e ∙ sym (drop-drop (id_length h.version) 12 b)

pub taken : (t u : TakenUp) (limits : Limits) (h : Header) (x y : List ℕ) (ps qs : List Entry) → t ≡ u → x ≡ y → IsTakenUp t limits (framed h x) ps qs → IsTakenUp u limits (framed h y) ps qs
taken t u limits h x y ps qs e is k = subst (λ (z : List ℕ). IsTakenUp u limits (framed h z) ps qs) is (subst (λ (v : TakenUp). IsTakenUp v limits (framed h x) ps qs) e k)

pub carries-bad : (limits : Limits) (before : Option Partial) (n : ℕ) (f : Frame) (e : StreamFault) → joinable limits f before ≡ Err e → judged_as Carries limits before n f ≡ Bad e
unfolding judged_as
carries-bad limits before n f e h = ap judged_carried h

pub ends-bad : (limits : Limits) (before : Option Partial) (n : ℕ) (f : Frame) (e : StreamFault) → joinable limits f before ≡ Err e → judged_as Ends limits before n f ≡ Bad e
unfolding judged_as
ends-bad limits before n f e h = ap (judged_ended f) h

pub carries-quiet : (limits : Limits) (n : ℕ) (f : Frame) (ps after : List Entry) (p : Part) → IsContinued p limits f ps after → judged_as Carries limits (part_in ps (key_of f)) n f ≡ Quiet
unfolding judged_as
carries-quiet limits n f ps after p c = rw c.had (ap judged_carried c.fits)

pub carried_on : (limits : Limits) (f : Frame) (ps : List Entry) (qs : List Part) (rs : List Part) (p : Part) → IsContinued p limits f ps (entries qs) → rs ≡ qs ++ p ∷ [] → entries rs ≡ parts_as Carries ps f
unfolding parts_as
carried_on limits f ps qs rs p c e =
    ap entries e ∙ map-append entry_of qs (p ∷ []) ∙ ap (λ (q : Entry). entries qs ++ q ∷ []) c.entry ∙ ap (λ (q : List Entry). q ++ record { key = key_of f; part = continued_by f c.before } ∷ []) c.others
    ∙ sym (rw c.had refl)

pub ends-as : (limits : Limits) (n : ℕ) (f : Frame) (ps after : List Entry) (p : Part) (c : IsContinued p limits f ps after) → judged_as Ends limits (part_in ps (key_of f)) n f ≡ judged_whole (joined c.before f)
unfolding judged_as
ends-as limits n f ps after p c = rw c.had (ap (judged_ended f) c.fits)

-- a verdict that a whole message leaves

pub never-quiet : (f : Frame) → judged_whole f ≡ Quiet → ⊥
never-quiet f e = elim (content_of f.header f.octets) as (λ r. on_content f r ≡ Quiet → ⊥) [ Err d ↦ λ k. absurd cc | Ok m ↦ λ k. absurd cc ] e

pub left-whole : (s : Settled) (b : List ℕ) (v : Verdict) (ps after : List Entry) → verdict_at s b ≡ v → (v ≡ Quiet → ⊥) → ps ≡ after → 12 ≤ length b → IsLeft s v b ps after
left-whole SettledQuiet b v ps after e n same long = absurd (n (sym e))
left-whole (SettledDone h) b v ps after e n same long = (sym e, same, long)
left-whole (SettledBad d) b v ps after e n same long = sym e

pub left-as : (s : Settled) (b : List ℕ) (v w : Verdict) (ps after : List Entry) → IsLeft s v b ps after → v ≡ w → IsLeft s w b ps after
left-as s b v w ps after l e = subst (λ (x : Verdict). IsLeft s x b ps after) e l

uncut-judged : (limits : Limits) (ps : List Entry) (n : ℕ) (f : Frame) → judged_uncut ps f ≡ judged_as Uncut limits (part_in ps (key_of f)) n f
unfolding judged_as
uncut-judged limits ps n f = refl

uncut-never : (b : Bool) (f : Frame) → cond b (Bad TwiceStarted) (judged_whole f) ≡ Quiet → ⊥
uncut-never true f e = absurd cc
uncut-never false f e = never-quiet f e

pub by-uncut : (limits : Limits) (h : Header) (b x : List ℕ) (ps qs : List Entry) (s : Settled) → x ≡ b → qs ≡ ps → 12 ≤ length b → verdict_at s x ≡ judged_uncut qs (framed h x) → IsSettledAs Uncut s limits h b b ps ps
unfolding parts_as
by-uncut limits h b x ps qs s is same long e =
    let f = framed h b in
    let there : verdict_at s b ≡ judged_uncut ps f = subst (λ (y : List ℕ). verdict_at s y ≡ judged_uncut ps (framed h y)) is (subst (λ (r : List Entry). verdict_at s x ≡ judged_uncut r (framed h x)) same e) in
    left-as s b (judged_uncut ps f) (judged_as Uncut limits (part_in ps (key_of f)) (length ps) f) ps ps (left-whole s b (judged_uncut ps f) ps ps there (uncut-never (is_some (part_in ps (key_of f))) f) refl long) (uncut-judged limits ps (length ps) f)

whole-at : (s : Settled) (h : Header) (b x : List ℕ) → x ≡ b → verdict_at s x ≡ judged_whole (framed h x) → verdict_at s b ≡ judged_whole (framed h b)
whole-at s h b x is e = subst (λ (y : List ℕ). verdict_at s y ≡ judged_whole (framed h y)) is e

pub by-cancel : (limits : Limits) (h : Header) (b x : List ℕ) (ps after : List Entry) (s : Settled) → x ≡ b → 12 ≤ length b → verdict_at s x ≡ judged_whole (framed h x) → after ≡ uncancelled (id_of (framed h x)) ps → IsSettledAs Drops s limits h b b ps after
unfolding judged_as parts_as
by-cancel limits h b x ps after s is long e left = left-whole s b (judged_whole (framed h b)) after (uncancelled (id_of (framed h b)) ps) (whole-at s h b x is e) (never-quiet (framed h b)) (left ∙ ap (λ (y : List ℕ). uncancelled (id_of (framed h y)) ps) is) long

pub by-apart : (limits : Limits) (h : Header) (b x : List ℕ) (ps : List Entry) (s : Settled) → x ≡ b → 12 ≤ length b → verdict_at s x ≡ judged_whole (framed h x) → IsSettledAs Apart s limits h b b ps ps
unfolding judged_as parts_as
by-apart limits h b x ps s is long e = left-whole s b (judged_whole (framed h b)) ps ps (whole-at s h b x is e) (never-quiet (framed h b)) refl long

-- a message that its last Fragment ends

part-of : (p : Part) (k : Key) (q : Partial) → entry_of p ≡ record { key = k; part = q } → (p.header ≡ q.header) × (drop 12 p.octets.items ≡ q.octets)
part-of p k q e = (ap (λ (x : Entry). x.part.header) e, ap (λ (x : Entry). x.part.octets) e)

abbrev whole_header : Header → ℕ → Header
whole_header h n = record h { more = false; size = n }

ended-message : (p : Part) (before : Partial) (f : Frame) (n : ℕ) → entry_of p ≡ record { key = key_of f; part = continued_by f before } → n ≡ length p.octets.items - 12 → framed (whole_header p.header n) p.octets.items ≡ joined before f
ended-message p before f n e is =
    let k = part-of p (key_of f) (continued_by f before) e in
    let size : n ≡ length (before.octets ++ payload_of f) = omega (arith, is, ap length k.1, length-drop 12 p.octets.items) in
    ap (λ (h : Header). framed (whole_header h n) p.octets.items) k.0 ∙ ap (λ (x : List ℕ). record { header = whole_header before.header n; octets = x }) k.1 ∙ ap (λ (m : ℕ). record { header = whole_header before.header m; octets = before.octets ++ payload_of f }) size

pub by-end : (limits : Limits) (h : Header) (b x : List ℕ) (ps after : List Entry) (p : Part) (s : Settled) (n : ℕ) → IsContinued p limits (framed h b) ps after → x ≡ p.octets.items → n ≡ length p.octets.items - 12 → 12 ≤ length p.octets.items
    → verdict_at s x ≡ judged_whole (framed (whole_header p.header n) x) → IsSettledAs Ends s limits h b p.octets.items ps after
unfolding parts_as
by-end limits h b x ps after p s n c is size long e =
    let f = framed h b in
    let m = joined c.before f in
    let there : verdict_at s p.octets.items ≡ judged_whole m = whole-at s (whole_header p.header n) p.octets.items x is e ∙ ap judged_whole (ended-message p c.before f n c.entry size) in
    left-as s p.octets.items (judged_whole m) (judged_as Ends limits (part_in ps (key_of f)) (length ps) f) after (without (key_of f) ps) (left-whole s p.octets.items (judged_whole m) after (without (key_of f) ps) there (never-quiet m) c.others long) (sym (ends-as limits (length ps) f ps after p c))

-- what comes before the judgement by a role

pub early-at : (b x : Bool) (ps qs : List Part) → qs ≡ ps → x ≡ (b && is_some (part_in (entries qs) Of11)) → (b && is_some (part_in (entries ps) Of11)) ≡ x
early-at b x ps qs is e = ap (λ (rs : List Part). b && is_some (part_in (entries rs) Of11)) (sym is) ∙ sym e

pub short-at : (h : Header) (b y : List ℕ) (has x : Bool) → y ≡ b → x ≡ (has && nat_lt (length y) 16) → (has && nat_lt (length (framed h b).octets) 4) ≡ x
short-at h b y has x is e =
    elim (test_lt (length b) 16) [
      | inl t ↦ ap (λ (z : Bool). has && z) (lt-ltb (length (drop 12 b)) 4 (omega (arith, t.1, length-drop 12 b)) ∙ sym t.0) ∙ ap (λ (z : List ℕ). has && nat_lt (length z) 16) (sym is) ∙ sym e
      | inr t ↦ ap (λ (z : Bool). has && z) (le-ltb (length (drop 12 b)) 4 (omega (arith, t.1, length-drop 12 b)) ∙ sym t.0) ∙ ap (λ (z : List ℕ). has && nat_lt (length z) 16) (sym is) ∙ sym e
    ]

pub long-at : (b y : List ℕ) (has : Bool) → y ≡ b → false ≡ (has && nat_lt (length y) 16) → IsTrue has → 16 ≤ length b
long-at b y true is e t = elim (test_lt (length y) 16) [ inl k ↦ absurd (let u = k.0 in cc) | inr k ↦ omega (arith, k.1, ap length is) ]
long-at b y false is e t = absurd cc

judged-there : (limits : Limits) (early before : Option Partial) (n : ℕ) (f : Frame) (r : Role) → r ≡ role_of f.header → (not (may_come r f.header.version) && is_some early) ≡ false → (has_id r f.header.version && nat_lt (length f.octets) 4) ≡ false
    → judged_as r limits before n f ≡ judged_by limits early before n f
unfolding judged_by
judged-there limits early before n f r is free long = rw (← is, free, long) refl

pub settled-by : (limits : Limits) (h : Header) (b b' : List ℕ) (ps ps' : List Entry) (r : Role) (s : Settled) → r ≡ role_of h → (not (may_come r h.version) && is_some (part_in ps Of11)) ≡ false → (has_id r h.version && nat_lt (length (framed h b).octets) 4) ≡ false
    → IsSettledAs r s limits h b b' ps ps' → IsSettled s limits h b b' ps ps'
settled-by limits h b b' ps ps' r s is free long l =
    let f = framed h b in
    let there : judged_as r limits (part_in ps (key_of f)) (length ps) f ≡ judged_by limits (part_in ps Of11) (part_in ps (key_of f)) (length ps) f = judged-there limits (part_in ps Of11) (part_in ps (key_of f)) (length ps) f r is free long in
    left-as s b' (judged_as r limits (part_in ps (key_of f)) (length ps) f) (judged_by limits (part_in ps Of11) (part_in ps (key_of f)) (length ps) f) ps' (parts_as (role_of h) ps f)
    (subst (λ (x : Role). IsLeft s (judged_as r limits (part_in ps (key_of f)) (length ps) f) b' ps' (parts_as x ps f)) is l) there

pub settled-twice : (limits : Limits) (h : Header) (b : List ℕ) (early before : Option Partial) (n : ℕ) (r : Role) → r ≡ role_of h → (not (may_come r h.version) && is_some early) ≡ true → judged_by limits early before n (framed h b) ≡ Bad TwiceStarted
unfolding judged_by
settled-twice limits h b early before n r is taken = rw (← is, taken) refl

pub settled-short : (limits : Limits) (h : Header) (b : List ℕ) (early before : Option Partial) (n : ℕ) (r : Role) → r ≡ role_of h → (not (may_come r h.version) && is_some early) ≡ false → (has_id r h.version && nat_lt (length (framed h b).octets) 4) ≡ true
    → judged_by limits early before n (framed h b) ≡ too_short
unfolding judged_by
settled-short limits h b early before n r is free few = rw (← is, free, few) refl
