pub mod Lent
pub mod Numbers
pub mod ThirdDemand
pub mod ClockOfC
pub mod BurstsOfC
pub mod WhoOfC
pub mod RoutedOfC
pub mod PageOfC
