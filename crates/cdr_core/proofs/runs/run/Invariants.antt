use Rattle.std.proofs.Common.{◌≡◌, ◌+◌, ◌^◌, ◌≤◌, ℕ, length, vec_capacity}
use Rattle.cdr_core.specs.Numbers.{padding}
use Rattle.cdr_core.specs.Private.{basic_form, basic_size, ReadsOn}
use Rattle.cdr_core.proofs.runs.run.Given as goal

abbrev pub invariant-loop : goal.invariant-loop
invariant-loop l = record {
  aligned : padding l.place (basic_size l.kind) ≡ 0;
  bound : l.place + length l.rest ≤ 2 ^ 63 + 2 ^ 32;
  long : length l.all.items ≡ length l.fn.others.items + l.counter;
  room : length l.fn.others.items + l.count ≤ vec_capacity l.all;
  reads : (n : ℕ) → l.count ≤ n → ReadsOn (basic_form l.kind) l.order n l.fn.others.items l.fn.place l.fn.octets l.all.items l.place l.rest;
}
