use Rattle.std.proofs.Common.{◌≡◌, ◌++◌, List, ℕ, Some, None, ap, sym, ◌∙◌}
use Rattle.std.proofs.lemmas.Bool.Decides.{Decides-eqb}
use Rattle.std.proofs.lemmas.List.{append_cancel_left}
use Rattle.std.proofs.lemmas.Slice.Eq.{slice_eq-Decides, strip_prefix_is}
use Rattle.trials.proofs.output.Output.has_gained.Goals as goal

-- what stands after the octets from before is compared with the octets
pub returns-in-Some : goal.returns-in-Some
returns-in-Some c =
    let before : List ℕ = c.args.self.now.before.now in
    let all : List ℕ = c.deref.result.now in
    let split : all ≡ before ++ c.in-Some.gained.now = strip_prefix_is Decides-eqb all before (Some c.in-Some.gained) c.in-Some.ensures.cases in
    let joined : c.args.self.now.out.items ≡ before ++ c.in-Some.gained.now = sym c.deref.ensures.value ∙ split in
    let same = slice_eq-Decides Decides-eqb c.in-Some.gained.now c.args.octets.now c.eq.result c.eq.ensures in
    (λ t. joined ∙ ap (λ rest. before ++ rest) (same.0 t), λ e. same.1 (append_cancel_left before _ _ (sym joined ∙ e)))

-- the octets from before do not stand at the front
pub returns-in-None : goal.returns-in-None
returns-in-None c =
    let before : List ℕ = c.args.self.now.before.now in
    let all : List ℕ = c.deref.result.now in
    let differs = strip_prefix_is Decides-eqb all before None c.in-None.ensures.cases in
    (λ t. absurd (cc t), λ e. absurd (differs c.args.octets.now (c.deref.ensures.value ∙ e)))
