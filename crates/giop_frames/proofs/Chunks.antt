-- Octets in chunks, and Fragments of them.
use Rattle.std.proofs.Common.{◌≡◌, ℕ, ◌+◌, ◌<◌, ◌≤◌, ◌==◌, true, false, List, [], ◌∷◌, ◌++◌, length, take, drop, IsTrue, refl, sym, ap, ◌∙◌, arith, append_assoc, length-append}
use Rattle.std.specs.List.{flat_map}
use Rattle.std.proofs.lemmas.Bool.{eq-eqb, ne_eqb}
use Rattle.std.proofs.lemmas.List.{append-nil, length-take-le, take-append-drop, length-drop}
use Rattle.giop_core.specs.declared.header.Header.{Header}
use Rattle.giop_core.specs.declared.header.MessageKind.{MessageKind}
use Rattle.giop_core.specs.declared.header.MessageKind.TheVariants.{Fragment}
use Rattle.giop_core.specs.declared.header.Version.{Version}
use Rattle.giop_core.specs.declared.header.Version.TheVariants.{V10, V11, V12}
use Rattle.giop_core.specs.Headers.{can_be_cut}
use Rattle.giop_frames.specs.Cutting.{fragment_of, fragments_of, frame_octets, chunks_from}
use Rattle.giop_frames.specs.Private.{IsAppended}

full : (n : ℕ) (chunk : List ℕ) (x : ℕ) (xs : List ℕ) → length chunk ≡ n → chunks_from n chunk (x ∷ xs) ≡ chunk ∷ chunks_from n (x ∷ []) xs
full n chunk x xs e = rw (eq-eqb (length chunk) n e) refl

open_yet : (n : ℕ) (chunk : List ℕ) (x : ℕ) (xs : List ℕ) → (length chunk ≡ n → ⊥) → chunks_from n chunk (x ∷ xs) ≡ chunks_from n (chunk ++ x ∷ []) xs
open_yet n chunk x xs e = rw (ne_eqb (length chunk) n e) refl

pub chunks-last : (n : ℕ) (chunk xs : List ℕ) → length chunk + length xs ≤ n → chunks_from n chunk xs ≡ (chunk ++ xs) ∷ []
chunks-last n chunk [] h = ap (λ (p : List ℕ). p ∷ []) (sym (append-nil chunk))
chunks-last n chunk (x ∷ xs) h =
    let less : length chunk ≡ n → ⊥ = λ e. omega (arith, e, h) in
    let fits : length (chunk ++ x ∷ []) + length xs ≤ n = omega (arith, h, length-append chunk (x ∷ [])) in
    open_yet n chunk x xs less ∙ chunks-last n (chunk ++ x ∷ []) xs fits ∙ ap (λ (p : List ℕ). p ∷ []) (append_assoc chunk (x ∷ []) xs)

pub chunks-more : (n : ℕ) (chunk a b : List ℕ) → 0 < n → length chunk + length a ≡ n → 0 < length b → chunks_from n chunk (a ++ b) ≡ (chunk ++ a) ∷ chunks_from n [] b
chunks-more n chunk [] [] some e more = absurd (omega (arith, more))
chunks-more n chunk [] (x ∷ b) some e more =
    let nothing : length {A = ℕ} [] ≡ n → ⊥ = λ k. omega (arith, k, some) in
    full n chunk x b (omega (arith, e)) ∙ ap (λ (p : List ℕ). p ∷ chunks_from n (x ∷ []) b) (sym (append-nil chunk)) ∙ ap (λ (ps : List (List ℕ)). (chunk ++ []) ∷ ps) (sym (open_yet n [] x b nothing))
chunks-more n chunk (x ∷ a) b some e more =
    let less : length chunk ≡ n → ⊥ = λ k. omega (arith, e, k) in
    let fits : length (chunk ++ x ∷ []) + length a ≡ n = omega (arith, e, length-append chunk (x ∷ [])) in
    open_yet n chunk x (a ++ b) less ∙ chunks-more n (chunk ++ x ∷ []) a b some fits more ∙ ap (λ (p : List ℕ). p ∷ chunks_from n [] b) (append_assoc chunk (x ∷ []) a)

-- a version of which a message can be cut has Fragments
pub can-fragment : (v : Version) (k : MessageKind) → IsTrue (can_be_cut v k) → IsTrue (can_be_cut v Fragment)
can-fragment V10 k t = absurd cc
can-fragment V11 k t = refl
can-fragment V12 k t = refl

-- there is a chunk always
pub fragments-more : (h : Header) (id p : List ℕ) (n : ℕ) (chunk xs : List ℕ) → fragments_of h id (p ∷ chunks_from n chunk xs) ≡ fragment_of h id true p ∷ fragments_of h id (chunks_from n chunk xs)
fragments-more h id p n chunk [] = refl
fragments-more h id p n chunk (x ∷ xs) =
    (elim (length chunk == n) as (λ b. (length chunk == n) ≡ b → fragments_of h id (p ∷ chunks_from n chunk (x ∷ xs)) ≡ fragment_of h id true p ∷ fragments_of h id (chunks_from n chunk (x ∷ xs))) [
      | true ↦ λ e.
          let here : chunks_from n chunk (x ∷ xs) ≡ chunk ∷ chunks_from n (x ∷ []) xs = rw e refl in
          ap (λ (ps : List (List ℕ)). fragments_of h id (p ∷ ps)) here ∙ ap (λ (ps : List (List ℕ)). fragment_of h id true p ∷ fragments_of h id ps) (sym here)
      | false ↦ λ e.
          let here : chunks_from n chunk (x ∷ xs) ≡ chunks_from n (chunk ++ x ∷ []) xs = rw e refl in
          ap (λ (ps : List (List ℕ)). fragments_of h id (p ∷ ps)) here ∙ fragments-more h id p n (chunk ++ x ∷ []) xs ∙ ap (λ (ps : List (List ℕ)). fragment_of h id true p ∷ fragments_of h id ps) (sym here)
    ]) refl

-- the octets of Fragments, by what is left

pub cut-more : (h : Header) (id front others left : List ℕ) (n : ℕ) → 0 < n → n < length left → front ≡ take n left → others ≡ drop n left
    → flat_map frame_octets (fragments_of h id (chunks_from n [] left)) ≡ frame_octets (fragment_of h id true front) ++ flat_map frame_octets (fragments_of h id (chunks_from n [] others))
cut-more h id front others left n some long e is =
    let whole : left ≡ front ++ others = sym (ap (λ (x : List ℕ). x ++ others) e ∙ ap (λ (x : List ℕ). take n left ++ x) is ∙ take-append-drop n left) in
    let size : length front ≡ n = ap length e ∙ length-take-le n left (omega (arith, long)) in
    let more : 0 < length others = omega (arith, ap length is, length-drop n left, long) in
    ap (λ (x : List ℕ). flat_map frame_octets (fragments_of h id (chunks_from n [] x))) whole
    ∙ ap (λ (ps : List (List ℕ)). flat_map frame_octets (fragments_of h id ps)) (chunks-more n [] front others some (omega (arith, size)) more)
    ∙ ap (flat_map frame_octets) (fragments-more h id front n [] others)

pub cut-last : (h : Header) (id left : List ℕ) (n : ℕ) → length left ≤ n → flat_map frame_octets (fragments_of h id (chunks_from n [] left)) ≡ frame_octets (fragment_of h id false left)
cut-last h id left n short =
    ap (λ (ps : List (List ℕ)). flat_map frame_octets (fragments_of h id ps)) (chunks-last n [] left (omega (arith, short))) ∙ append-nil (frame_octets (fragment_of h id false left))

-- more after more

pub appended-more : (a b c : List ℕ) → IsAppended a b → IsAppended b c → IsAppended a c
appended-more a b c x y = (x.0 ++ y.0, y.1 ∙ ap (λ (z : List ℕ). z ++ y.0) x.1 ∙ append_assoc a x.0 y.0)

pub appended-by : (a b x : List ℕ) → b ≡ a ++ x → IsAppended a b
appended-by a b x e = (x, e)

pub appended-none : (a b c : List ℕ) → IsAppended a b → c ≡ b → IsAppended a c
appended-none a b c x e = (x.0, e ∙ x.1)

pub appended-three : (a b c d x y z : List ℕ) → b ≡ a ++ x → c ≡ b ++ y → d ≡ c ++ z → d ≡ a ++ (x ++ (y ++ z))
appended-three a b c d x y z e f g =
    g ∙ ap (λ (w : List ℕ). w ++ z) (f ∙ ap (λ (w : List ℕ). w ++ y) e) ∙ append_assoc (a ++ x) y z ∙ append_assoc a x (y ++ z)

pub kept-more : (out out' x left others whole : List ℕ) → out' ≡ out ++ x → left ≡ x ++ others → out ++ left ≡ whole → out' ++ others ≡ whole
kept-more out out' x left others whole e is same = ap (λ (y : List ℕ). y ++ others) e ∙ append_assoc out x others ∙ ap (λ (y : List ℕ). out ++ y) (sym is) ∙ same
