-- The engine keeps the laws, so agreement holds of it, and its sets have honest packs.
use Rattle.std.specs.Prelude.{ℕ, Bool}
use Rattle.calls.specs.Engine.{engine}
use Rattle.agreement.specs.History.{one}
use Rattle.agreement.specs.DemandThree.{EngineAgrees}
use Rattle.agreement.specs.HonestPack.{EngineHonestPack, EngineOutputFirst}
use Rattle.agreement.proofs.laws.Machine.{Laws}
use Rattle.agreement.proofs.laws.Demand.{demand_three}
use Rattle.agreement.proofs.laws.HonestPack.{honest_pack, output_first}
use Rattle.agreement.proofs.laws.EngineReading.{engine_reading}
use Rattle.agreement.proofs.laws.EngineOpening.{open_ruled, open_belongs, open_blank, open_coins, open_refused}
use Rattle.agreement.proofs.laws.EngineDelivery.{deliver_refused, deliver_accepted, says_one}
use Rattle.agreement.proofs.laws.EngineJournal.{restore_refused, restore_ran}
use Rattle.agreement.proofs.laws.EngineTurn.{turn_belongs, turn_told, turn_idle}
use Rattle.agreement.proofs.laws.EngineRecording.{record_refused, record_binary, record_printed, record_accepted}
use Rattle.agreement.proofs.laws.EngineReport.{outputs_have_readies, names_exits, exits_names, force_held}

pub engine_laws : (H : ℕ → Bool) (κ : ℕ → ℕ → Bool) → Laws engine engine_reading H κ
engine_laws H κ =
    record {
      open_ruled = open_ruled;
      open_belongs = open_belongs;
      open_blank = open_blank H κ;
      open_coins = open_coins;
      open_refused = open_refused;
      deliver_refused = deliver_refused;
      deliver_accepted = deliver_accepted H κ;
      says_one = says_one;
      turn_belongs = λ o w x l. turn_belongs o w x l;
      turn_told = λ o w x coins l. turn_told o w x l H κ coins;
      turn_idle = λ o w x l e. turn_idle w l e;
      record_refused = record_refused;
      record_binary = record_binary;
      record_printed = λ o w x e b. record_printed o w x.words e b;
      record_accepted = record_accepted H κ;
      restore_refused = restore_refused;
      restore_ran = restore_ran;
      outputs_held = λ o w x. outputs_have_readies o H κ w x.words;
      names_exits = λ o w x. names_exits o H κ w x.words;
      exits_names = λ o w x. exits_names o H κ w x.words;
      force_held = λ o w x. force_held o H κ w x.words;
      shown_outputs = λ o w x i v e. e;
      one_decided = λ o w x i e. one e;
    }

pub engine_agrees : EngineAgrees
engine_agrees = demand_three engine engine_reading engine_laws

pub engine_honest_pack : EngineHonestPack
engine_honest_pack = honest_pack engine engine_reading engine_laws

pub engine_output_first : EngineOutputFirst
engine_output_first = output_first engine engine_reading engine_laws
