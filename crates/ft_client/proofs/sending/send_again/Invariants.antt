use Rattle.std.proofs.Common.{◌≡◌, ◌≤◌, ◌++◌, ℕ, List, length, map, take, drop}
use Rattle.ft_client.specs.Keeping.{ids_after_sending, kept_by, octets_again, sent_again, unmarked}
use Rattle.ft_client.specs.Standing.{waiting_ids}
use Rattle.ft_client.proofs.Sent.{IsAwaiting}
use Rattle.ft_client.proofs.sending.send_again.Given as goal

abbrev pub invariant-loop-place : goal.invariant-loop-place
invariant-loop-place l = record {
  same : length l.pending ≡ length l.fn.pending;
  again : take l.place (map kept_by l.pending) ++ sent_again l.now l.link.ids.given (drop l.place (map kept_by l.pending)) ≡ sent_again l.now l.fn.link.ids.given (map kept_by l.fn.pending);
  given : ids_after_sending l.now l.link.ids.given (drop l.place (map kept_by l.pending)) ≡ ids_after_sending l.now l.fn.link.ids.given (map kept_by l.fn.pending);
  octets : l.out.items ++ octets_again l.now l.link.ids.given (drop l.place (map kept_by l.pending)) ≡ l.fn.out.items ++ octets_again l.now l.fn.link.ids.given (map kept_by l.fn.pending);
  link : l.link ≡ record l.fn.link { ids = l.link.ids };
  waits : (is : List ℕ) → l.fn.link.ids ≡ waiting_ids l.fn.link.ids.given is → IsAwaiting l.now l.fn.link.ids.given l.link.ids (map kept_by l.fn.pending) (drop l.place (map kept_by l.pending)) is;
  front : take (length l.fn.out.items) l.out.items ≡ l.fn.out.items;
  long : length l.fn.out.items ≤ length l.out.items;
  kept : unmarked (map kept_by l.pending) ≡ unmarked (map kept_by l.fn.pending);
}
