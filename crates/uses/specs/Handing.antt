-- A call that a gateway hands on.
use Rattle.std.specs.Prelude.{ℕ, ◌+◌, min, List, [], ◌∷◌}
use Rattle.giop_core.specs.Content.{Rest}
use Rattle.giop_core.specs.Written.{octets_body}
use Rattle.giop_core.specs.declared.header.Version.TheVariants.{V12}
use Rattle.giop_core.specs.declared.request.ReplyWish.TheVariants.{Full}
use Rattle.ft_client.specs.Messages.{Call, raw}

-- until 10 seconds later, or the last moment that there is
abbrev pub patience : ℕ → ℕ
patience now = min (now + 100000000) 18446744073709551615

-- GIOP 9.8.1: with CodeSets as its one context beside FT_REQUEST, in 1.2, with a reply
abbrev pub handed_on : ℕ → (key operation code_sets : List ℕ) → Rest → Call
handed_on now key operation code_sets body = record {
  object_key = key;
  operation = operation;
  arguments = octets_body body.octets;
  expiration = patience now;
  form = raw (record { version = V12; order = body.order; wish = Full; contexts = (1, code_sets) ∷ []; place = body.place });
}
