-- The locations of values as the code names them. Only private functions need these definitions.
use Rattle.std.specs.Prelude.{Option, None}
use Rattle.pb_profile_keys.specs.Keys.{says}
use Rattle.pb_profile_keys.specs.declared.key.ProfileKey.{ProfileKey}
use Rattle.pb_profile_keys.specs.declared.setting.Setting.{Setting}
use Rattle.pb_manifest_types.specs.declared.profile.Profile.{Profile}
use Rattle.pb_profile.specs.Settings.{Lookup, said_by, override_named, in_package, in_build_override, of_hosts, own, built_in}
use Rattle.pb_profile.specs.declared.locations.Location.{Location}
use Rattle.pb_profile.specs.declared.locations.Location.TheVariants.{Package, BuildOverride, OfHosts, Own, BuiltIn}

-- the location that a source of the code means
abbrev pub sought : Location → Lookup
sought (Package name) = in_package name.now
sought BuildOverride = in_build_override
sought OfHosts = of_hosts
sought Own = own
sought BuiltIn = built_in

-- the value that a profile's table has for a key at a location
abbrev pub written_in : Location → Profile → ProfileKey → Option Setting
written_in (Package name) table k = said_by (override_named name.now table) k
written_in BuildOverride table k = said_by table.build_override k
written_in OfHosts table k = None
written_in Own table k = says table.keys k
written_in BuiltIn table k = None
