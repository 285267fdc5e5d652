-- The entries without that of a key. No public contract, definition or law uses these words.
use Rattle.std.specs.Prelude.{not, List, filter}
use Rattle.ft_log.specs.Keys.{RequestKey, same_key}
use Rattle.ft_log.specs.View.{key_of}
use Rattle.ft_log.specs.declared.story.Entry.{Entry}

abbrev pub without : RequestKey → List Entry → List Entry
without key es = filter (λ e. not (same_key key (key_of e.key))) es
