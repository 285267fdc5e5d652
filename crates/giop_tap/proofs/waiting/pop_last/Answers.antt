use Rattle.std.proofs.Common.{◌≡◌, ℕ, List, [], cond, is_some, sym, ap, ◌∙◌}
use Rattle.std.specs.Global.{Vec}
use Rattle.std.specs.Option.{option_copied_mut, option_map_or}
use Rattle.giop_tap.specs.Waiting.{is_same_place, last_of, numbers_in, without_last}
use Rattle.giop_tap.proofs.Kept.{under-cond}
use Rattle.giop_tap.proofs.Stacks.{popped}
use Rattle.giop_tap.proofs.waiting.pop_last.Goals as goal
use Rattle.giop_tap.proofs.waiting.pop_last.Goals.{Start}

pub returns-clause-number : goal.returns-clause-number
returns-clause-number c =
    let ns : List ℕ = c.in_ok-numbers.numbers.now.items in
    let found : numbers_in c.args.waiting.now.entries c.args.place ≡ ns =
    ap (λ o. option_map_or (λ v. v.items) o []) (sym c.get_mut.ensures.value) ∙ ap (λ o. option_map_or (λ v. v.items) (option_copied_mut o) []) c.in_ok-numbers.was in
    (popped ns c.pop.new.self.items c.pop.result c.in_ok-numbers.numbers.now.len (sym c.in_ok-numbers.numbers.now.ok.0) c.pop.ensures.items c.pop.ensures.variant).0 ∙ ap last_of (sym found)

pub returns-clause-left : goal.returns-clause-left
returns-clause-left c = λ other.
    let ns : List ℕ = c.in_ok-numbers.numbers.now.items in
    let w = c.pop.new.self in
    let there = sym (ap is_some c.get_mut.ensures.value) ∙ ap (λ o. is_some (option_copied_mut o)) c.in_ok-numbers.was in
    let up = (c.get_mut.follows.holds w).3 there in
    let found : numbers_in c.args.waiting.now.entries c.args.place ≡ ns =
    ap (λ o. option_map_or (λ v. v.items) o []) (sym c.get_mut.ensures.value) ∙ ap (λ o. option_map_or (λ v. v.items) (option_copied_mut o) []) c.in_ok-numbers.was in
    let left : w.items ≡ without_last (numbers_in c.args.waiting.now.entries c.args.place) =
    sym ((popped ns w.items c.pop.result c.in_ok-numbers.numbers.now.len (sym c.in_ok-numbers.numbers.now.ok.0) c.pop.ensures.items c.pop.ensures.variant).1) ∙ ap without_last (sym found) in
    ap (λ o. option_map_or (λ v. v.items) o []) (up.0 other)
    ∙ under-cond (λ (v : Vec ℕ). v.items) [] (is_same_place c.args.place other) w _
    ∙ ap (λ (left : List ℕ). cond (is_same_place c.args.place other) left (numbers_in c.args.waiting.now.entries other)) left
