-- What a frame leaves.
use Rattle.std.proofs.Common.{◌≡◌, ℕ, ◌+◌, ◌≤◌, ◌&&◌, nat_lt, Bool, true, false, List, [], ◌∷◌, ◌++◌, length, drop, Option, Some, None, IsTrue, refl, sym, ap, subst, ◌∙◌, inl, inr, arith, length-drop}
use Rattle.std.specs.Option.{option_map}
use Rattle.std.proofs.lemmas.Bool.{le-ltb, lt-ltb}
use Rattle.std.proofs.lemmas.List.{drop-append-le, drop-drop, length-map, map-append}
use Rattle.giop_core.specs.declared.header.Header.{Header}
use Rattle.giop_frames.specs.declared.fault.StreamFault.{StreamFault}
use Rattle.giop_frames.specs.declared.fault.StreamFault.TheVariants.{StrayFragment}
use Rattle.giop_frames.specs.declared.limits.Limits.{Limits}
use Rattle.giop_frames.specs.Fragments.{payload_of}
use Rattle.giop_frames.specs.Frames.{Frame, id_length}
use Rattle.giop_proxy.specs.declared.passes.coming.Coming.{Coming as ComingHere}
use Rattle.giop_proxy.specs.declared.passes.coming.Part.{Part}
use Rattle.giop_proxy.specs.declared.passes.coming.Told.{Told as ToldHere}
use Rattle.giop_proxy.specs.declared.passes.keys.Key.{Key}
use Rattle.giop_proxy.specs.declared.passes.joining.Role.{Role}
use Rattle.giop_proxy.specs.PassingMessages.{Coming, Entry, Step, Told, added, at_fault, begun_by, continued_by, ended, first_fault, first_judged, first_step, forgotten, has_id, is_passed, judged, key_of, next_fault, next_found, next_judged, next_step, part_in, role_of, step, step_as, too_short, without}
use Rattle.giop_proxy.specs.PassingPrivate.{IsStep, coming_at, entries, entry_at, frame_in, framed, told_at}
use Rattle.giop_proxy.proofs.PassingKeys.{without-none}
use Rattle.giop_proxy.proofs.PassingSights.{test_lt}

-- a frame as what has come of its message
pub fresh-is : (m : ComingHere) → m.cuts.items ≡ [] → coming_at m ≡ begun_by m.begins (frame_in m)
fresh-is m e = ap (λ (x : List ℕ). record { header = m.header; octets = drop 12 m.octets.items; begins = m.begins; cuts = x }) e

-- the payload after the header and the id
pub payload-at : (h : Header) (b x : List ℕ) → x ≡ drop (12 + id_length h.version) b → x ≡ payload_of (framed h b)
payload-at h b x e = e ∙ sym (drop-drop (id_length h.version) 12 b)

-- a payload, appended
pub joined-is : (m : ComingHere) (f : Frame) (octets cuts payload : List ℕ) (l : ℕ) → cuts ≡ m.cuts.items ++ l ∷ [] → octets ≡ m.octets.items ++ payload → l ≡ length m.octets.items → payload ≡ payload_of f
    → record { header = m.header; octets = drop 12 octets; begins = m.begins; cuts = cuts } ≡ continued_by f (coming_at m)
joined-is m f octets cuts payload l cut joins long is =
    let all : drop 12 octets ≡ drop 12 m.octets.items ++ payload_of f = ap (drop 12) joins ∙ drop-append-le 12 m.octets.items payload (omega (arith, m.headed)) ∙ ap (λ (x : List ℕ). drop 12 m.octets.items ++ x) is in
    let place : l ≡ 12 + length (drop 12 m.octets.items) = omega (arith, long, m.headed, length-drop 12 m.octets.items) in
    ap (λ (x : List ℕ). record { header = m.header; octets = x; begins = m.begins; cuts = cuts }) all
    ∙ ap (λ (x : List ℕ). record { header = m.header; octets = drop 12 m.octets.items ++ payload_of f; begins = m.begins; cuts = x }) (cut ∙ ap (λ (x : ℕ). m.cuts.items ++ x ∷ []) place)

-- messages, one more
pub entries-push : (ps qs : List Part) (p : Part) → qs ≡ ps ++ p ∷ [] → entries qs ≡ entries ps ++ entry_at p ∷ []
entries-push ps qs p e = ap entries e ∙ map-append entry_at ps (p ∷ [])

pub count-of : (ps : List Part) → length (entries ps) ≡ length ps
count-of ps = length-map ps entry_at

-- what a frame leaves
pub is-step : (t : Option ToldHere) (s : Step) (ps qs : List Entry) (js is : List Key) (o : Option Told) → s ≡ record { parts = ps; passed = js; told = o } → option_map told_at t ≡ o → qs ≡ ps → is ≡ js → IsStep t s qs is
is-step t s ps qs js is o e told parts passed = record {
  given = told ∙ sym (ap (λ (x : Step). x.told) e);
  parts = parts ∙ sym (ap (λ (x : Step). x.parts) e);
  passed = passed ∙ sym (ap (λ (x : Step). x.passed) e);
}

-- a Fragment of a message

module _ (limits : Limits) (m f : ComingHere) (payload : List ℕ) (ps : List Entry) (js : List Key) (key : Key) (named : key ≡ key_of (frame_in f)) (paid : payload ≡ payload_of (frame_in f)) where
  -- by the fault that was found
  by-fault : (o : Option StreamFault) → o ≡ next_fault limits (coming_at m) f.header (length payload) → next_judged ps js (frame_in f) (coming_at m) (next_fault limits (coming_at m) f.header (length (payload_of (frame_in f)))) ≡ next_judged ps js (frame_in f) (coming_at m) o
  by-fault o is = ap (next_judged ps js (frame_in f) (coming_at m)) (ap (λ (x : List ℕ). next_fault limits (coming_at m) f.header (length x)) (sym paid) ∙ sym is)

  faulty-more : (e : StreamFault) → f.header.more ≡ true → next_judged ps js (frame_in f) (coming_at m) (Some e) ≡ record { parts = ps; passed = added (key_of (frame_in f)) js; told = Some (at_fault e (coming_at m)) }
  faulty-more e more = rw more refl

  faulty-last : (e : StreamFault) → f.header.more ≡ false → next_judged ps js (frame_in f) (coming_at m) (Some e) ≡ record { parts = ps; passed = js; told = Some (at_fault e (coming_at m)) }
  faulty-last e more = rw more refl

  quiet-more : f.header.more ≡ true → next_judged ps js (frame_in f) (coming_at m) None ≡ record { parts = ps ++ record { key = key_of (frame_in f); message = continued_by (frame_in f) (coming_at m) } ∷ []; passed = js; told = None }
  quiet-more more = rw more refl

  done-last : f.header.more ≡ false → next_judged ps js (frame_in f) (coming_at m) None ≡ record { parts = ps; passed = js; told = Some (judged (ended (continued_by (frame_in f) (coming_at m)))) }
  done-last more = rw more refl

  abbrev whole_step : Step
  whole_step = next_judged ps js (frame_in f) (coming_at m) (next_fault limits (coming_at m) f.header (length (payload_of (frame_in f))))

  pub goes-fault-more : (t : ToldHere) (e : StreamFault) (is : List Key) → Some e ≡ next_fault limits (coming_at m) f.header (length payload) → f.header.more ≡ true → is ≡ added key js → told_at t ≡ at_fault e (coming_at m) → IsStep (Some t) whole_step ps is
  goes-fault-more t e is found more added-is told =
      is-step (Some t) whole_step ps ps (added (key_of (frame_in f)) js) is (Some (at_fault e (coming_at m))) (by-fault (Some e) found ∙ faulty-more e more) (ap (λ (x : Told). Some x) told) refl (added-is ∙ ap (λ (k : Key). added k js) named)

  pub goes-fault-last : (t : ToldHere) (e : StreamFault) → Some e ≡ next_fault limits (coming_at m) f.header (length payload) → f.header.more ≡ false → told_at t ≡ at_fault e (coming_at m) → IsStep (Some t) whole_step ps js
  goes-fault-last t e found more told =
      is-step (Some t) whole_step ps ps js js (Some (at_fault e (coming_at m))) (by-fault (Some e) found ∙ faulty-last e more) (ap (λ (x : Told). Some x) told) refl refl

  pub goes-quiet : (qs rs : List Part) (p : Part) → None ≡ next_fault limits (coming_at m) f.header (length payload) → f.header.more ≡ true → ps ≡ entries qs → rs ≡ qs ++ p ∷ [] → p.key ≡ key → coming_at p.message ≡ continued_by (frame_in f) (coming_at m) → IsStep None whole_step (entries rs) js
  goes-quiet qs rs p found more list push same joins =
      let one : entry_at p ≡ record { key = key_of (frame_in f); message = continued_by (frame_in f) (coming_at m) } = ap (λ (k : Key). record { key = k; message = coming_at p.message }) (same ∙ named) ∙ ap (λ (c : Coming). record { key = key_of (frame_in f); message = c }) joins in
      is-step None whole_step _ (entries rs) js js None (by-fault None found ∙ quiet-more more) refl (entries-push qs rs p push ∙ ap (λ (xs : List Entry). xs ++ entry_at p ∷ []) (sym list) ∙ ap (λ (x : Entry). ps ++ x ∷ []) one) refl

  pub goes-done : (t : ToldHere) (whole : Coming) → None ≡ next_fault limits (coming_at m) f.header (length payload) → f.header.more ≡ false → whole ≡ ended (continued_by (frame_in f) (coming_at m)) → told_at t ≡ judged whole → IsStep (Some t) whole_step ps js
  goes-done t whole found more is told =
      is-step (Some t) whole_step ps ps js js (Some (judged (ended (continued_by (frame_in f) (coming_at m))))) (by-fault None found ∙ done-last more) (ap (λ (x : Told). Some x) (told ∙ ap judged is)) refl refl

-- a first frame

first-is : (limits : Limits) (place : ℕ) (ps : List Entry) (js : List Key) (f : Frame) (o : Option StreamFault) → first_fault limits (length (without (key_of f) ps)) f.header ≡ o → first_step limits place ps js f ≡ first_judged place (without (key_of f) ps) (forgotten (key_of f) js) f o
unfolding first_step
first-is limits place ps js f o e = ap (first_judged place (without (key_of f) ps) (forgotten (key_of f) js) f) e

module _ (limits : Limits) (m : ComingHere) (ps : List Entry) (js is : List Key) (qs : List Part) (key : Key) (n : ℕ) (named : key ≡ key_of (frame_in m)) (fresh : m.cuts.items ≡ []) (rest : entries qs ≡ without key ps) (forgot : is ≡ forgotten key js) (count : n ≡ length qs) where
  rest_is : entries qs ≡ without (key_of (frame_in m)) ps
  rest_is = rest ∙ ap (λ (k : Key). without k ps) named

  forgot_is : is ≡ forgotten (key_of (frame_in m)) js
  forgot_is = forgot ∙ ap (λ (k : Key). forgotten k js) named

  by-first : (o : Option StreamFault) → o ≡ first_fault limits n m.header → first_step limits m.begins ps js (frame_in m) ≡ first_judged m.begins (without (key_of (frame_in m)) ps) (forgotten (key_of (frame_in m)) js) (frame_in m) o
  by-first o is =
      let long : n ≡ length (without (key_of (frame_in m)) ps) = count ∙ sym (count-of qs) ∙ ap length rest_is in
      first-is limits m.begins ps js (frame_in m) o (ap (λ (x : ℕ). first_fault limits x m.header) (sym long) ∙ sym is)

  pub begins-fault : (t : ToldHere) (e : StreamFault) (hs : List Key) → Some e ≡ first_fault limits n m.header → hs ≡ added key is → told_at t ≡ at_fault e (coming_at m) → IsStep (Some t) (first_step limits m.begins ps js (frame_in m)) (entries qs) hs
  begins-fault t e hs found added-is told =
      is-step (Some t) _ _ (entries qs) _ hs (Some (at_fault e (begun_by m.begins (frame_in m)))) (by-first (Some e) found) (ap (λ (x : Told). Some x) (told ∙ ap (at_fault e) (fresh-is m fresh))) rest_is
      (added-is ∙ ap (λ (k : Key). added k is) named ∙ ap (added (key_of (frame_in m))) forgot_is)

  pub begins-quiet : (rs : List Part) (p : Part) → None ≡ first_fault limits n m.header → rs ≡ qs ++ p ∷ [] → p.key ≡ key → coming_at p.message ≡ coming_at m → IsStep None (first_step limits m.begins ps js (frame_in m)) (entries rs) is
  begins-quiet rs p found push same from =
      let one : entry_at p ≡ record { key = key_of (frame_in m); message = begun_by m.begins (frame_in m) } = ap (λ (k : Key). record { key = k; message = coming_at p.message }) (same ∙ named) ∙ ap (λ (c : Coming). record { key = key_of (frame_in m); message = c }) (from ∙ fresh-is m fresh) in
      is-step None _ _ (entries rs) _ is None (by-first None found) refl
      (entries-push qs rs p push ∙ ap (λ (xs : List Entry). xs ++ entry_at p ∷ []) rest_is ∙ ap (λ (x : Entry). without (key_of (frame_in m)) ps ++ x ∷ []) one) forgot_is

-- a Fragment

passed-more : (limits : Limits) (place : ℕ) (ps : List Entry) (js : List Key) (f : Frame) → is_passed (key_of f) js ≡ true → f.header.more ≡ true → next_step limits place ps js f ≡ record { parts = ps; passed = js; told = None }
unfolding next_step
passed-more limits place ps js f passed more = rw (passed, more) refl

passed-last : (limits : Limits) (place : ℕ) (ps : List Entry) (js : List Key) (f : Frame) → is_passed (key_of f) js ≡ true → f.header.more ≡ false → next_step limits place ps js f ≡ record { parts = ps; passed = forgotten (key_of f) js; told = None }
unfolding next_step
passed-last limits place ps js f passed more = rw (passed, more) refl

found-is : (limits : Limits) (place : ℕ) (ps : List Entry) (js : List Key) (f : Frame) (o : Option Coming) → is_passed (key_of f) js ≡ false → part_in ps (key_of f) ≡ o → next_step limits place ps js f ≡ next_found limits place ps js f o
unfolding next_step
found-is limits place ps js f o passed e = rw passed (ap (next_found limits place ps js f) e)

module _ (limits : Limits) (f : ComingHere) (ps : List Entry) (js xs : List Key) (key : Key) (b : Bool) (named : key ≡ key_of (frame_in f)) (fresh : f.cuts.items ≡ []) (same : xs ≡ js) (passed : b ≡ is_passed key xs) where
  passed_is : is_passed (key_of (frame_in f)) js ≡ b
  passed_is = ap (λ (k : Key). is_passed k js) (sym named) ∙ ap (is_passed key) (sym same) ∙ sym passed

  pub next-over : b ≡ true → f.header.more ≡ true → IsStep None (next_step limits f.begins ps js (frame_in f)) ps js
  next-over is more = is-step None _ ps ps js js None (passed-more limits f.begins ps js (frame_in f) (passed_is ∙ is) more) refl refl refl

  pub next-over-last : (hs : List Key) → b ≡ true → f.header.more ≡ false → hs ≡ forgotten key js → IsStep None (next_step limits f.begins ps js (frame_in f)) ps hs
  next-over-last hs is more forgot = is-step None _ ps ps _ hs None (passed-last limits f.begins ps js (frame_in f) (passed_is ∙ is) more) refl refl (forgot ∙ ap (λ (k : Key). forgotten k js) named)

  pub next-stray : (t : ToldHere) (qs : List Entry) → b ≡ false → part_in ps key ≡ None → qs ≡ without key ps → told_at t ≡ at_fault StrayFragment (coming_at f) → IsStep (Some t) (next_step limits f.begins ps js (frame_in f)) qs js
  next-stray t qs is none rest told =
      is-step (Some t) _ ps qs js js (Some (at_fault StrayFragment (begun_by f.begins (frame_in f)))) (found-is limits f.begins ps js (frame_in f) None (passed_is ∙ is) (ap (part_in ps) (sym named) ∙ none))
      (ap (λ (x : Told). Some x) (told ∙ ap (at_fault StrayFragment) (fresh-is f fresh))) (rest ∙ without-none key ps none) refl

  pub next-goes : (m : ComingHere) (qs : List Entry) (t : Option ToldHere) (rs : List Entry) (hs : List Key) → b ≡ false → part_in ps key ≡ Some (coming_at m) → qs ≡ without key ps
      → IsStep t (next_judged qs js (frame_in f) (coming_at m) (next_fault limits (coming_at m) f.header (length (payload_of (frame_in f))))) rs hs → IsStep t (next_step limits f.begins ps js (frame_in f)) rs hs
  next-goes m qs t rs hs is some rest step =
      let all = found-is limits f.begins ps js (frame_in f) (Some (coming_at m)) (passed_is ∙ is) (ap (part_in ps) (sym named) ∙ some) in
      let list : qs ≡ without (key_of (frame_in f)) ps = rest ∙ ap (λ (k : Key). without k ps) named in
      subst (λ (s : Step). IsStep t s rs hs) (ap (λ (x : List Entry). next_judged x js (frame_in f) (coming_at m) (next_fault limits (coming_at m) f.header (length (payload_of (frame_in f))))) list ∙ sym all) step

-- what comes before the judgement by a role

short_at : (b y : List ℕ) (has x : Bool) → y ≡ b → x ≡ (has && nat_lt (length y) 16) → (has && nat_lt (length (drop 12 b)) 4) ≡ x
short_at b y has x is e =
    elim (test_lt (length b) 16) [
      | inl t ↦ ap (λ (z : Bool). has && z) (lt-ltb (length (drop 12 b)) 4 (omega (arith, t.1, length-drop 12 b)) ∙ sym t.0) ∙ ap (λ (z : List ℕ). has && nat_lt (length z) 16) (sym is) ∙ sym e
      | inr t ↦ ap (λ (z : Bool). has && z) (le-ltb (length (drop 12 b)) 4 (omega (arith, t.1, length-drop 12 b)) ∙ sym t.0) ∙ ap (λ (z : List ℕ). has && nat_lt (length z) 16) (sym is) ∙ sym e
    ]

pub long-at : (b y : List ℕ) (has : Bool) → y ≡ b → false ≡ (has && nat_lt (length y) 16) → IsTrue has → 16 ≤ length b
long-at b y true is e t = elim (test_lt (length y) 16) [ inl k ↦ absurd (let u = k.0 in cc) | inr k ↦ omega (arith, k.1, ap length is) ]
long-at b y false is e t = absurd cc

step-short : (limits : Limits) (place : ℕ) (ps : List Entry) (js : List Key) (f : Frame) (r : Role) → r ≡ role_of f.header → (has_id r f.header.version && nat_lt (length f.octets) 4) ≡ true → step limits place ps js f ≡ record { parts = ps; passed = js; told = Some (at_fault too_short (begun_by place f)) }
unfolding step
step-short limits place ps js f r is short = rw (← is, short) refl

step-by : (limits : Limits) (place : ℕ) (ps : List Entry) (js : List Key) (f : Frame) (r : Role) → r ≡ role_of f.header → (has_id r f.header.version && nat_lt (length f.octets) 4) ≡ false → step limits place ps js f ≡ step_as r limits place ps js f
unfolding step
step-by limits place ps js f r is long = rw (← is, long) refl

pub settles-short : (limits : Limits) (m : ComingHere) (ps : List Entry) (js : List Key) (r : Role) (y : List ℕ) (x : Bool) (t : ToldHere) → r ≡ role_of m.header → m.cuts.items ≡ [] → y ≡ m.octets.items → x ≡ (has_id r m.header.version && nat_lt (length y) 16) → x ≡ true → told_at t ≡ at_fault too_short (coming_at m)
    → IsStep (Some t) (step limits m.begins ps js (frame_in m)) ps js
settles-short limits m ps js r y x t is fresh same test e told =
    is-step (Some t) _ ps ps js js (Some (at_fault too_short (begun_by m.begins (frame_in m)))) (step-short limits m.begins ps js (frame_in m) r is (short_at m.octets.items y (has_id r m.header.version) x same test ∙ e))
    (ap (λ (z : Told). Some z) (told ∙ ap (at_fault too_short) (fresh-is m fresh))) refl refl

pub settles-by : (limits : Limits) (m : ComingHere) (ps : List Entry) (js : List Key) (r : Role) (y : List ℕ) (x : Bool) (t : Option ToldHere) (rs : List Entry) (hs : List Key) → r ≡ role_of m.header → y ≡ m.octets.items → x ≡ (has_id r m.header.version && nat_lt (length y) 16) → x ≡ false
    → IsStep t (step_as r limits m.begins ps js (frame_in m)) rs hs → IsStep t (step limits m.begins ps js (frame_in m)) rs hs
settles-by limits m ps js r y x t rs hs is same test e s =
    subst (λ (z : Step). IsStep t z rs hs) (sym (step-by limits m.begins ps js (frame_in m) r is (short_at m.octets.items y (has_id r m.header.version) x same test ∙ e))) s
