-- What is read can be printed: values of their forms make an edit that can be said.
use Rattle.std.proofs.Common.{◌≡◌, ℕ, suc, ◌≤◌, Bool, true, false, ◌&&◌, nat_le, List, [], ◌∷◌, Option, Some, None, Ok, Err, refl, subst, arith}
use Rattle.std.specs.Prelude.{if◌then◌else◌, codes, bytes_eq}
use Rattle.std.specs.Option.{option_map}
use Rattle.std.proofs.lemmas.Bool.Decides.{nat_tests}
use Rattle.ses_units.specs.declared.mode.Mode.TheVariants.{Manual, Play}
use Rattle.ses_units.specs.declared.shape.Shape.TheVariants.{Linear, Slow}
use Rattle.ses_units.specs.Name.{is_name}
use Rattle.session_model.specs.declared.edit.Edit.{Edit}
use Rattle.session_model.specs.declared.edit.Edit.TheVariants as edit
use Rattle.edit_script.specs.declared.refusal.LineRefusal.{LineRefusal}
use Rattle.edit_script.specs.declared.verb.Transport.{Transport}
use Rattle.edit_script.specs.declared.verb.Transport.TheVariants.{Roll, Stop, Quit, Record, Locate, Loop, LoopOff}
use Rattle.edit_script.specs.declared.verb.Strip.{Strip}
use Rattle.edit_script.specs.declared.verb.Strip.TheVariants as strip
use Rattle.edit_script.specs.declared.verb.Desk.{Desk}
use Rattle.edit_script.specs.declared.verb.Desk.TheVariants.{Point, Unpoint, Connect, Send, Unsend}
use Rattle.edit_script.specs.declared.verb.Region.{Region}
use Rattle.edit_script.specs.declared.verb.Region.TheVariants.{Add, Remove, Move, Trim}
use Rattle.edit_script.specs.declared.verb.Blend.{Blend}
use Rattle.edit_script.specs.declared.verb.Blend.TheVariants as blend
use Rattle.edit_script.specs.Words.{word_at}
use Rattle.edit_script.specs.Forms.{Form, Name, Whole, OnOff, ManualPlay, PrePost, LinearSlow, JustOff, Value, Named, Number, Switch, Mode, Pre, Shape, Off, number, within, largest, value_of, wrong}
use Rattle.edit_script.specs.Table.{transport_forms, transport_makes, strip_forms, strip_makes, desk_forms, desk_makes, region_forms, region_makes, blend_forms, blend_makes}
use Rattle.edit_script.specs.Reading.{Read, ◌>>=◌, found, values_from}
use Rattle.std.specs.List.{list_all}
use Rattle.edit_script.specs.Laws.{can_be_said, IsSayable}
use Rattle.edit_script.proofs.BackLemmas.{AllSaid}
use Rattle.edit_script.proofs.OfForms.{IsOf, AreOf}

-- the values can be said
said_all : (values : List Value) → AllSaid values → list_all can_be_said values ≡ true
said_all [] said = refl
said_all (value ∷ values) said = rw (said.0, said_all values said.1) refl

below : (n most : ℕ) → nat_le n most ≡ true → most ≤ largest → nat_le n largest ≡ true
below n most low high = grind (arith, nat_tests)

abbrev pub Makes : Option Edit → Type 0
Makes made = (e : Edit) × (made ≡ Some e) × IsSayable e

both : (a b : Bool) → a ≡ true → b ≡ true → (a && b) ≡ true
both true b one other = other
both false b one other = one

abbrev in_ids : ℕ → Bool
in_ids id = nat_le 1 id && nat_le id 999999

id_forms : (id : ℕ) → IsOf (Whole 1 999999) (Number id) → in_ids id ≡ true
id_forms id p = both (nat_le 1 id) (nat_le id 999999) p.0 p.1

below_id : (id : ℕ) → IsOf (Whole 1 999999) (Number id) → nat_le id largest ≡ true
below_id id p = below id 999999 p.1 (omega arith)

below_layer : (layer : ℕ) → IsOf (Whole 0 65535) (Number layer) → nat_le layer largest ≡ true
below_layer layer p = below layer 65535 p.1 (omega arith)

pub transport_made : (v : Transport) (values : List Value) → AreOf (transport_forms v) values → Makes (transport_makes v values)
transport_made Roll [] p = (edit.Roll, refl, record { forms = refl; words = said_all [] tt })
transport_made Stop [] p = (edit.Stop, refl, record { forms = refl; words = said_all [] tt })
transport_made Quit [] p = (edit.Quit, refl, record { forms = refl; words = said_all [] tt })
transport_made Record (Switch on ∷ []) p = (edit.Recording on, refl, record { forms = refl; words = said_all (Switch on ∷ []) (refl, tt) })
transport_made Locate (Number to ∷ []) p = (edit.Locate to, refl, record { forms = refl; words = said_all (Number to ∷ []) (p.0.1, tt) })
transport_made Loop (Number from ∷ Number to ∷ []) p = (
  edit.Loop from to,
  refl,
  record {
    forms = refl;
    words = said_all (Number from ∷ Number to ∷ []) (p.0.1, (p.1.0.1, tt));
  },
)
transport_made LoopOff (Off ∷ []) p = (edit.LoopOff, refl, record { forms = refl; words = said_all (Off ∷ []) (refl, tt) })
transport_made v values p = absurd (assumption)

pub strip_made : (v : Strip) (values : List Value) → AreOf (strip_forms v) values → Makes (strip_makes v values)
strip_made strip.Arm (Named track ∷ Switch on ∷ []) p = (
  edit.Arm track on,
  refl,
  record {
    forms = refl;
    words = said_all (Named track ∷ Switch on ∷ []) (p.0, (refl, tt));
  },
)
strip_made strip.Solo (Named track ∷ Switch on ∷ []) p = (
  edit.Solo track on,
  refl,
  record {
    forms = refl;
    words = said_all (Named track ∷ Switch on ∷ []) (p.0, (refl, tt));
  },
)
strip_made strip.Mute (Named route ∷ Switch on ∷ []) p = (
  edit.Mute route on,
  refl,
  record {
    forms = refl;
    words = said_all (Named route ∷ Switch on ∷ []) (p.0, (refl, tt));
  },
)
strip_made strip.Gain (Named route ∷ Number gain ∷ []) p = (
  edit.Gain route gain,
  refl,
  record {
    forms = refl;
    words = said_all (Named route ∷ Number gain ∷ []) (p.0, (p.1.0.1, tt));
  },
)
strip_made strip.Pan (Named route ∷ Number to_left ∷ Number to_right ∷ []) p = (
  edit.Pan route to_left to_right,
  refl,
  record {
    forms = refl;
    words = said_all (Named route ∷ Number to_left ∷ Number to_right ∷ []) (p.0, (p.1.0.1, (p.1.1.0.1, tt)));
  },
)
strip_made strip.Mode (Named route ∷ Mode mode ∷ []) p = (
  edit.Mode route mode,
  refl,
  record {
    forms = refl;
    words = said_all (Named route ∷ Mode mode ∷ []) (p.0, (refl, tt));
  },
)
strip_made v values p = absurd (assumption)

pub desk_made : (v : Desk) (values : List Value) → AreOf (desk_forms v) values → Makes (desk_makes v values)
desk_made Point (Named route ∷ Number at ∷ Number gain ∷ []) p = (
  edit.Point route at gain,
  refl,
  record {
    forms = refl;
    words = said_all (Named route ∷ Number at ∷ Number gain ∷ []) (p.0, (p.1.0.1, (p.1.1.0.1, tt)));
  },
)
desk_made Unpoint (Named route ∷ Number at ∷ []) p = (
  edit.Unpoint route at,
  refl,
  record {
    forms = refl;
    words = said_all (Named route ∷ Number at ∷ []) (p.0, (p.1.0.1, tt));
  },
)
desk_made Connect (Named route ∷ Named target ∷ []) p = (
  edit.Connect route target,
  refl,
  record {
    forms = refl;
    words = said_all (Named route ∷ Named target ∷ []) (p.0, (p.1.0, tt));
  },
)
desk_made Send (Named route ∷ Named target ∷ Pre pre ∷ Number gain ∷ []) p = (
  edit.Send route target pre gain,
  refl,
  record {
    forms = refl;
    words = said_all (Named route ∷ Named target ∷ Pre pre ∷ Number gain ∷ []) (p.0, (p.1.0, (refl, (p.1.1.1.0.1, tt))));
  },
)
desk_made Unsend (Named route ∷ Named target ∷ []) p = (
  edit.Unsend route target,
  refl,
  record {
    forms = refl;
    words = said_all (Named route ∷ Named target ∷ []) (p.0, (p.1.0, tt));
  },
)
desk_made v values p = absurd (assumption)

pub region_made : (v : Region) (values : List Value) → AreOf (region_forms v) values → Makes (region_makes v values)
region_made Add (Named track ∷ Number id ∷ Named source ∷ Number start ∷ Number long ∷ Number at ∷ Number layer ∷ []) p = (
  edit.Add track id source start long at layer,
  refl,
  record {
    forms = both ((in_ids id) && nat_le 1 long) (nat_le layer 65535) (both (in_ids id) (nat_le 1 long) (id_forms id p.1.0) p.1.1.1.1.0.0) p.1.1.1.1.1.1.0.1;
    words = said_all (Named track ∷ Number id ∷ Named source ∷ Number start ∷ Number long ∷ Number at ∷ Number layer ∷ []) (p.0, (below_id id p.1.0, (p.1.1.0, (p.1.1.1.0.1, (p.1.1.1.1.0.1, (p.1.1.1.1.1.0.1, (below_layer layer p.1.1.1.1.1.1.0, tt)))))));
  },
)
region_made Remove (Named track ∷ Number id ∷ []) p = (
  edit.Remove track id,
  refl,
  record {
    forms = id_forms id p.1.0;
    words = said_all (Named track ∷ Number id ∷ []) (p.0, (below_id id p.1.0, tt));
  },
)
region_made Move (Named track ∷ Number id ∷ Number at ∷ []) p = (
  edit.Move track id at,
  refl,
  record {
    forms = id_forms id p.1.0;
    words = said_all (Named track ∷ Number id ∷ Number at ∷ []) (p.0, (below_id id p.1.0, (p.1.1.0.1, tt)));
  },
)
region_made Trim (Named track ∷ Number id ∷ Number start ∷ Number long ∷ []) p = (
  edit.Trim track id start long,
  refl,
  record {
    forms = both (in_ids id) (nat_le 1 long) (id_forms id p.1.0) p.1.1.1.0.0;
    words = said_all (Named track ∷ Number id ∷ Number start ∷ Number long ∷ []) (p.0, (below_id id p.1.0, (p.1.1.0.1, (p.1.1.1.0.1, tt))));
  },
)
region_made v values p = absurd (assumption)

pub blend_made : (v : Blend) (values : List Value) → AreOf (blend_forms v) values → Makes (blend_makes v values)
blend_made blend.Layer (Named track ∷ Number id ∷ Number layer ∷ []) p = (
  edit.Layer track id layer,
  refl,
  record {
    forms = both (in_ids id) (nat_le layer 65535) (id_forms id p.1.0) p.1.1.0.1;
    words = said_all (Named track ∷ Number id ∷ Number layer ∷ []) (p.0, (below_id id p.1.0, (below_layer layer p.1.1.0, tt)));
  },
)
blend_made blend.Opaque (Named track ∷ Number id ∷ Switch on ∷ []) p = (
  edit.Opaque track id on,
  refl,
  record {
    forms = id_forms id p.1.0;
    words = said_all (Named track ∷ Number id ∷ Switch on ∷ []) (p.0, (below_id id p.1.0, (refl, tt)));
  },
)
blend_made blend.Gain (Named track ∷ Number id ∷ Number gain ∷ []) p = (
  edit.RegionGain track id gain,
  refl,
  record {
    forms = id_forms id p.1.0;
    words = said_all (Named track ∷ Number id ∷ Number gain ∷ []) (p.0, (below_id id p.1.0, (p.1.1.0.1, tt)));
  },
)
blend_made blend.Fade (Named track ∷ Number id ∷ Number fade_in ∷ Number fade_out ∷ []) p = (
  edit.Fade track id fade_in fade_out,
  refl,
  record {
    forms = id_forms id p.1.0;
    words = said_all (Named track ∷ Number id ∷ Number fade_in ∷ Number fade_out ∷ []) (p.0, (below_id id p.1.0, (p.1.1.0.1, (p.1.1.1.0.1, tt))));
  },
)
blend_made blend.Shape (Named track ∷ Number id ∷ Shape shape_in ∷ Shape shape_out ∷ []) p = (
  edit.Shape track id shape_in shape_out,
  refl,
  record {
    forms = id_forms id p.1.0;
    words = said_all (Named track ∷ Number id ∷ Shape shape_in ∷ Shape shape_out ∷ []) (p.0, (below_id id p.1.0, (refl, (refl, tt))));
  },
)
blend_made v values p = absurd (assumption)
