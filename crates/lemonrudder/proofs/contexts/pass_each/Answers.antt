use Rattle.std.proofs.Common.{◌≡◌, ◌≤◌, ◌<◌, ◌+◌, ◌-◌, ◌∙◌, ℕ, List, [], ◌∷◌, ◌++◌, length, map, Ok, Err, ap, refl, subst, sym, arith, length-append}
use Rattle.std.proofs.lemmas.Result.{err_from_is_err_and}
use Rattle.std.specs.Borrow.{Bor}
use Rattle.cdr_core.specs.Private.{with_front}
use Rattle.cdr_core.specs.Reading.{Read, each_at, value_at}
use Rattle.cdr_core.specs.Value as value
use Rattle.cdr_core.specs.Value.{Values, values}
use Rattle.cdr_core.proofs.Turns.{each_done, each_more, each_stops, values_push}
use Rattle.ior_core.specs.Grammar.{tagged}
use Rattle.ior_core.specs.View.{lent_value}
use Rattle.lemonrudder.proofs.contexts.pass_each.Goals as goal

front-none : (r : Read Values) → with_front value.no_values r ≡ r
front-none (Ok x) = refl
front-none (Err f) = refl

none-less : (n : ℕ) → n - 0 ≡ n
none-less n = omega arith

none-within : (n : ℕ) → 0 ≤ n
none-within n = omega arith

one-within : (n i : ℕ) → i < n → i + 1 ≤ n
one-within n i less = omega (arith, less)

all-within : (n i k : ℕ) → k ≡ i → i ≤ n → n ≤ i → k ≡ n
all-within n i k is most least = omega (arith, is, most, least)

one-longer : (xs : List (ℕ × Bor (List ℕ))) (x : ℕ × Bor (List ℕ)) (i : ℕ) → length xs ≡ i → length (xs ++ x ∷ []) ≡ i + 1
one-longer xs x i is = let long = length-append xs (x ∷ []) in omega (arith, long, is)

pub loop-init : goal.loop-init
loop-init c = record {
  order = refl;
  within = none-within c.args.count;
  read = ([], refl, front-none _ ∙ ap (λ n. each_at (value_at tagged c.args.cursor.now.order) n c.args.cursor.now.place c.args.cursor.now.rest) (none-less c.args.count));
}

pub loop-preserved : goal.loop-preserved
loop-preserved c =
    let i = c.loop.invariant in
    let xs = i.read.0 in
    let x = c.in_ok-_one._one in
    let one = value_at tagged c.args.cursor.now.order in
    let read = rw i.order at c.in_ok-_one.ensures in
    let cursor = c.read_tagged.new.cursor in
    record {
      order = read.1;
      within = one-within c.args.count c.loop.counter c.loop-test.true;
      read = (
        xs ++ x ∷ [],
        one-longer xs x c.loop.counter i.read.1,
        subst (λ vs. with_front vs (each_at one (c.args.count - (c.loop.counter + 1)) cursor.place cursor.rest) ≡ each_at one c.args.count c.args.cursor.now.place c.args.cursor.now.rest) (sym (values_push lent_value xs x))
            (each_more one (values (map lent_value xs)) c.args.count c.loop.counter c.loop.cursor.place c.loop.cursor.rest (lent_value x) cursor.place cursor.rest _ c.loop-test.true read.0 i.read.2),
      );
    }

pub returns-in_err-_one : goal.returns-in_err-_one
returns-in_err-_one c =
    let p = err_from_is_err_and c.from_residual.result c.from_residual.ensures.1 in
    let i = c.loop.invariant in
    let read = rw i.order at c.in_err-_one.ensures in
    rw (p.1, p.2) (each_stops c.in_err-_one.field-0.0 (value_at tagged c.args.cursor.now.order) (values (map lent_value i.read.0)) c.args.count c.loop.counter c.loop.cursor.place c.loop.cursor.rest _ c.loop-test.true read i.read.2)

pub returns : goal.returns
returns c =
    let i = c.loop.invariant in (
      i.read.0,
      all-within c.args.count c.loop.counter _ i.read.1 i.within c.loop-test.false,
      each_done (value_at tagged c.args.cursor.now.order) (values (map lent_value i.read.0)) c.args.count c.loop.counter c.loop.cursor.place c.loop.cursor.rest _ c.loop-test.false i.read.2,
    )
