-- What is reported of a message that is lent.
use Rattle.std.proofs.Common.{◌≡◌, ◌∙◌, ℕ, true, false, List, Vec, Global, length, get_or, ltb, ltb-true, ltb-false, map, min, Option, Some, None, option_map, slice_get, Ok, ap, refl, subst, sym}
use Rattle.std.proofs.lemmas.Option.{slice_get-map, slice_get_past, slice_get_read}
use Rattle.std.specs.Option.{IsSomeAnd, option_and_then}
use Rattle.cdr_core.specs.declared.order.Order.{Order}
use Rattle.giop_core.specs.declared.header.Version.{Version}
use Rattle.giop_core.specs.declared.message.Message.{Message}
use Rattle.giop_core.specs.Content.{Content}
use Rattle.giop_core.specs.Lent.{content_of}
use Rattle.giop_frames.specs.Frames.{Frame}
use Rattle.giop_frames.specs.Standing.{IsLent}
use Rattle.lemonrudder.specs.declared.assembling.MessageHead.{MessageHead}
use Rattle.lemonrudder.specs.Assembled.{Assembled}
use Rattle.lemonrudder.specs.Layouts.{laid, octets_of_message}
use Rattle.lemonrudder.specs.Lends.{AreThose, Tells, context_in, contexts_in, copied_item, head_of, said, said_in, size_in}

-- a head of all but the number of service contexts, and that number
pub tells-lent : (o : Option Frame) (m : Message) (room new : List ℕ) (found : MessageHead) (n : ℕ) → IsSomeAnd o (λ f. IsLent m f) → found ≡ record (head_of m.version m.order (content_of m.content)) { contexts = 0 }
    → n ≡ min (size_in (contexts_in (content_of m.content))) 4294967295 → new ≡ laid (octets_of_message (record found { contexts = n })) room → Tells o room new (Ok 1)
tells-lent None m room new found n lent is count laid_out = absurd lent
tells-lent (Some f) m room new found n lent is count laid_out =
    let c = content_of m.content in
    let told : record found { contexts = n } ≡ head_of m.version m.order c =
    ap (λ (h : MessageHead). record h { contexts = n }) is ∙ ap (λ (k : ℕ). record (head_of m.version m.order c) { contexts = k }) count in
    (refl, (c, lent.content, laid_out ∙ ap (λ (h : MessageHead). laid (octets_of_message h) room) (told ∙ (ap (λ (v : Version). head_of v m.order c) lent.version ∙ ap (λ (o : Order). head_of f.header.version o c) lent.order))))

-- what a list has at an index, or that it has none there

pub at_index : {A : Type 0} (xs ys : List A) (i : ℕ) (x : A) → ys ≡ xs → true ≡ ltb i (length ys) → x ≡ get_or ys i x → slice_get xs i ≡ Some x
at_index xs ys i x is within at = subst (λ zs. slice_get zs i ≡ Some x) is (slice_get_read ys (length ys) i x refl (ltb-true i (length ys) (sym within)) at)

pub past_index : {A : Type 0} (xs ys : List A) (i : ℕ) → ys ≡ xs → false ≡ ltb i (length ys) → slice_get xs i ≡ None
past_index xs ys i is past = subst (λ zs. slice_get zs i ≡ None) is (slice_get_past ys i (ltb-false i (length ys) (sym past)))

-- a service context is found among the copies of all
at_message : (o : Option Content) (copies : List (ℕ × Vec ℕ Global)) (index : ℕ) → option_and_then contexts_in o ≡ Some (map copied_item copies) → option_and_then (context_in index) o ≡ option_map copied_item (slice_get copies index)
at_message None copies index are = absurd cc
at_message (Some c) copies index are = ap (option_and_then (λ all. slice_get all index)) are ∙ slice_get-map copied_item copies index

pub at_copy : (s : Assembled) (lent : Option Frame) (copies : List (ℕ × Vec ℕ Global)) (index : ℕ) (found : Option (ℕ × List ℕ)) (o : Option (ℕ × Vec ℕ Global)) → s.assembler.message ≡ lent → AreThose lent copies → slice_get copies index ≡ o → option_map copied_item o ≡ found
    → found ≡ option_and_then (context_in index) (said s)
at_copy s lent copies index found o is are at same =
    sym (at_message (said s) copies index (ap (λ m. option_and_then contexts_in (said_in m)) is ∙ are) ∙ ap (option_map copied_item) at ∙ same)
