-- What is said afterwards is what was said before and one act more, and where nothing is said nothing has to follow.
use Rattle.std.proofs.Common.{◌≡◌, ◌≢◌, ℕ, zero, suc, List, [], ◌∷◌, ◌++◌, map, take, Option, Some, Ok, Vec, Global, refl, sym, ap, subst, ◌∙◌}
use Rattle.std.proofs.lemmas.List.{map-append}
use Rattle.ft_orb.specs.Wires.{Act, IfKnown, Gave, GaveNone, Took, TookNone, act_of_read, act_of_write}
use Rattle.memory_wire.specs.Tapes.{act_of, said_by}
use Rattle.memory_wire.specs.declared.tape.Act.{Act as CodeAct}

follows-some : {A : Type 0} (step : A → A → Type 0) (old new : A) → step old new → IfKnown step (Some old) (Some new)
follows-some step old new h now is = let e : new ≡ now = cc in (old, refl, subst (λ u. step old u) e h)

-- an act more
pub said : (tape : Option (Vec CodeAct Global)) (old new : Vec CodeAct Global) (act : CodeAct) → tape ≡ Some old → new.items ≡ old.items ++ act ∷ [] → IfKnown (λ t u. u ≡ t ++ act_of act ∷ []) (said_by tape) (said_by (Some new))
said tape old new act is more =
    subst (λ (o : Option (Vec CodeAct Global)). IfKnown (λ (t u : List Act). u ≡ t ++ act_of act ∷ []) (said_by o) (said_by (Some new))) (sym is)
    (follows-some (λ (t u : List Act). u ≡ t ++ act_of act ∷ []) (map act_of old.items) (map act_of new.items) (ap (λ (acts : List CodeAct). map act_of acts) more ∙ map-append act_of old.items (act ∷ [])))

pub said-as : (old new : Option (List Act)) (act other : Act) → act ≡ other → IfKnown (λ t u. u ≡ t ++ act ∷ []) old new → IfKnown (λ t u. u ≡ t ++ other ∷ []) old new
said-as old new act other is h = subst (λ (a : Act). IfKnown (λ (t u : List Act). u ≡ t ++ a ∷ []) old new) is h

pub read-none : (buffer : List ℕ) (n : ℕ) → n ≡ 0 → GaveNone ≡ act_of_read buffer (Ok n)
read-none buffer zero h = refl
read-none buffer (suc n) h = absurd cc

pub write-none : (octets : List ℕ) (n : ℕ) → n ≡ 0 → TookNone ≡ act_of_write octets (Ok n)
write-none octets zero h = refl
write-none octets (suc n) h = absurd cc

pub read-some : (buffer piece : List ℕ) (n : ℕ) → n ≢ 0 → piece ≡ take n buffer → Gave piece ≡ act_of_read buffer (Ok n)
read-some buffer piece zero h is = absurd (h refl)
read-some buffer piece (suc n) h is = ap (λ (xs : List ℕ). Gave xs) is

pub write-some : (octets taken : List ℕ) (n : ℕ) → n ≢ 0 → taken ≡ take n octets → Took taken ≡ act_of_write octets (Ok n)
write-some octets taken zero h is = absurd (h refl)
write-some octets taken (suc n) h is = ap (λ (xs : List ℕ). Took xs) is
