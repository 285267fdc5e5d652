use Rattle.ft_client.specs.declared.ended.Ended.{Ended as CodeEnded}
use Rattle.std.proofs.Common.{◌≡◌, ℕ, ℤ, [], ◌∷◌, ◌++◌, length, take, sym, ap, ◌∙◌, subst, append_assoc, w32, rules, arith}
use mir.Val.{SFits}
use Rattle.std.proofs.lemmas.Int.{to_z-of_z}
use Rattle.std.proofs.lemmas.List.{append-nil}
use Rattle.std.proofs.Math.Seq.{take-append_seam}
use Rattle.ft_ends.proofs.Given.{IsGiven, given-all, given-none, given-one}
use Rattle.ft_ends.proofs.playing.give_out.Goals as goal

pub loop-id-init : goal.loop-id-init
loop-id-init c = record {
  given = λ m st. given-none c.args.place m c.args.client.now c.args.out.now.items st;
  kept = ([], sym (append-nil c.args.out.now.items));
}

pub returns-then-is_err-clause-err : goal.returns-then-is_err-clause-err
returns-then-is_err-clause-err c =
    let k = c.loop-id.invariant.kept in
    let start : c.len-start.result ≡ length c.args.out.now.items = let len = c.len-start.ensures in omega (arith, len) in
    c.truncate.ensures.items ∙ (λ i. take (start i) ((c.reserve.ensures.items ∙ k.1) i)) ∙ take-append_seam c.args.out.now.items k.0

pub loop-id-preserved : goal.loop-id-preserved
loop-id-preserved c =
    let k = c.loop-id.invariant.kept in
    let x : ℕ × ℤ × CodeEnded = (c.args.place, c.in-Some.id, c.in-Some.ended) in
    let fits : SFits w32 c.in-Some.id = search rules in
    let grown = c.push_reserved.ensures.items ∙ ap (λ (z : ℤ). c.reserve.new.self.items ++ (c.args.place, z, c.in-Some.ended) ∷ []) (to_z-of_z w32 c.in-Some.id fits) ∙ ap (λ xs. xs ++ x ∷ []) c.reserve.ensures.items in
    record {
      given = λ m st. subst (λ xs. IsGiven c.args.place m c.take_completion.new.self c.args.out.now.items xs) (sym grown)
          (given-one c.args.place m c.loop-id.client c.take_completion.new.self c.args.out.now.items c.loop-id.out.items c.take_completion.result (c.in-Some.id, c.in-Some.ended) c.in-Some.is (c.loop-id.invariant.given m st)
          c.take_completion.ensures.given c.take_completion.ensures.stands);
      kept = (k.0 ++ x ∷ [], grown ∙ ap (λ xs. xs ++ x ∷ []) k.1 ∙ append_assoc c.args.out.now.items k.0 (x ∷ []));
    }

pub returns-clause-given : goal.returns-clause-given
returns-clause-given c m st =
    (given-all c.args.place m c.loop-id.client c.take_completion.new.self c.args.out.now.items c.loop-id.out.items c.take_completion.result c.in_default.is (c.loop-id.invariant.given m st) c.take_completion.ensures.given c.take_completion.ensures.stands).0

pub returns-clause-stands : goal.returns-clause-stands
returns-clause-stands c m st =
    (given-all c.args.place m c.loop-id.client c.take_completion.new.self c.args.out.now.items c.loop-id.out.items c.take_completion.result c.in_default.is (c.loop-id.invariant.given m st) c.take_completion.ensures.given c.take_completion.ensures.stands).1
