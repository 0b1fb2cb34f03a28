-- How the options of a build are read in parts. Only private functions need these definitions.
use Rattle.std.specs.Prelude.{codes, None, Ok}
use Rattle.serde_json.specs.Data.{Data}
use Rattle.serde_json.specs.Find.{get}
use Rattle.pb_data.specs.UnlessOom.{◌>>=◌}
use Rattle.pb_build_session.specs.Faults.{Read}
use Rattle.pb_build_session.specs.Options.{manifest_or_default, number_or, text_or, texts_at, truth_at}
use Rattle.pb_workspace_types.specs.declared.options.Options.{Options}
use Rattle.pb_build_session.specs.declared.options.OptionValues.{OptionValues}
use Rattle.pb_build_session.specs.declared.options.Featured.{Featured}
use Rattle.pb_build_session.specs.declared.options.Targeted.{Targeted}
use Rattle.pb_build_session.specs.declared.options.Tools.{Tools}

-- The part of the options that says what is selected. Of the next two definitions, the first reads
-- the features and the profile, and the second the targets and the number of jobs.
abbrev pub asked_in : Data → Read OptionValues
asked_in d =
    manifest_or_default (get (codes "manifest") d) >>= (λ manifest.
    texts_at (codes "packages") d >>= (λ packages.
    truth_at (codes "workspace") d >>= (λ workspace.
    Ok record { manifest = manifest; packages = packages; workspace = workspace })))

abbrev pub featured_in : Data → Read Featured
featured_in d =
    texts_at (codes "features") d >>= (λ features.
    truth_at (codes "all_features") d >>= (λ all_features.
    truth_at (codes "no_default_features") d >>= (λ no_default_features.
    text_or (codes "dev") (get (codes "profile") d) >>= (λ profile.
    Ok record { features = features; all_features = all_features; no_default_features = no_default_features; profile = profile }))))

abbrev pub targeted_in : Data → Read Targeted
targeted_in d =
    truth_at (codes "lib") d >>= (λ lib.
    truth_at (codes "bins") d >>= (λ bins.
    texts_at (codes "bin") d >>= (λ bin.
    number_or 1 (get (codes "jobs") d) >>= (λ jobs.
    Ok record { lib = lib; bins = bins; bin = bin; jobs = jobs }))))

-- the options that consist of these parts
abbrev pub joined : OptionValues → Featured → Targeted → Tools → Options
joined asked featured targeted tools = record {
  manifest = asked.manifest;
  packages = asked.packages;
  workspace = asked.workspace;
  features = featured.features;
  all_features = featured.all_features;
  no_default_features = featured.no_default_features;
  profile = featured.profile;
  lib = targeted.lib;
  bins = targeted.bins;
  bin = targeted.bin;
  target_dir = None;
  runner = tools.runner;
  tool = tools.tool;
  jobs = targeted.jobs;
}
