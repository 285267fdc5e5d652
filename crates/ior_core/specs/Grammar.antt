-- The types of references, as the standard's IDL has them.
use Rattle.std.specs.Prelude.{[], ◌∷◌}
use Rattle.cdr_core.specs.Form as form
use Rattle.cdr_core.specs.Form.{Form}
use Rattle.cdr_core.specs.Parts.{most, octet, raw, text, ulong, ushort}
use Rattle.cdr_core.specs.View.{forms}

-- IOP 7.6.2: struct TaggedProfile { ProfileId tag; sequence<octet> profile_data; }, and TaggedComponent alike
abbrev pub tagged : Form
tagged = form.structure (forms (ulong ∷ raw ∷ []))

abbrev pub tagged_list : Form
tagged_list = form.sequence most tagged

-- IOP 7.6.2: struct IOR { string type_id; sequence<TaggedProfile> profiles; }
abbrev pub reference : Form
reference = form.structure (forms (text ∷ tagged_list ∷ []))

-- IIOP 9.7.2: struct ProfileBody_1_0 { Version iiop_version; string host; unsigned short port; sequence<octet> object_key; },
-- where a version is an octet major and an octet minor
abbrev pub profile_1_0 : Form
profile_1_0 = form.structure (forms (octet ∷ octet ∷ text ∷ ushort ∷ raw ∷ []))

-- IIOP 9.7.2: struct ProfileBody_1_1, which has a sequence<TaggedComponent> components as its last member
abbrev pub profile_1_1 : Form
profile_1_1 = form.structure (forms (octet ∷ octet ∷ text ∷ ushort ∷ raw ∷ tagged_list ∷ []))
