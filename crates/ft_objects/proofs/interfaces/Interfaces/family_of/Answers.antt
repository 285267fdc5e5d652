use Rattle.std.proofs.Common.{◌≡◌, ◌∙◌, ◌++◌, ◌∷◌, [], ℕ, Bool, List, Vec, Global, ap, map, option_copied, rules, sym}
use Rattle.std.specs.Map.{keys_of}
use Rattle.std.specs.Map.Iter.{deref}
use Rattle.std.proofs.lemmas.List.{map-append}
use Rattle.std.proofs.lemmas.Map.Iter.{iter_end}
use Rattle.ft_objects.specs.Adding.{longer_front}
use Rattle.ft_objects.specs.Families.{family}
use Rattle.ft_objects.proofs.Fronts.{is_among, known_among, longest_is, longest_on}
use Rattle.ft_objects.proofs.interfaces.Interfaces.family_of.Goals as goal

pub returns : goal.returns
returns c =
    let all : map deref c.loop-own.yielded ≡ keys_of c.args.self.now.objects.entries = search (rules, iter_end) in
    longest_is c.args.key.now _ _ c.loop-own.invariant
    ∙ (ap (λ ks. family (is_among (map (λ (k : Vec ℕ Global). k.items) ks)) c.args.key.now) all
    ∙ ap (λ (knows : List ℕ → Bool). family knows c.args.key.now) (sym (known_among c.args.self.now.objects)))

pub loop-own-preserved : goal.loop-own-preserved
loop-own-preserved c =
    let ks = map (λ (k : Vec ℕ Global). k.items) (map deref c.loop-own.yielded) in
    let seam : map (λ (k : Vec ℕ Global). k.items) (map deref (c.loop-own.yielded ++ c.in-Some.own ∷ [])) ≡ ks ++ c.in-Some.own.now.items ∷ [] =
    ap (map (λ (k : Vec ℕ Global). k.items)) (map-append deref c.loop-own.yielded (c.in-Some.own ∷ [])) ∙ map-append (λ (k : Vec ℕ Global). k.items) (map deref c.loop-own.yielded) (deref c.in-Some.own ∷ []) in
    let best = c.longer-longest.ensures ∙ ap (longer_front c.args.key.now (option_copied c.loop-own.longest)) c.deref.ensures.value in
    longest_on c.args.key.now ks c.in-Some.own.now.items _ (option_copied c.loop-own.longest) (option_copied c.longer-longest.result) seam best c.loop-own.invariant
